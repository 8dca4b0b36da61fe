pub mod Opening
pub mod Promises
