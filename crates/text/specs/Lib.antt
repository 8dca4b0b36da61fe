pub mod Decimals
pub mod Promises
