pub mod Ones
pub mod Promises
