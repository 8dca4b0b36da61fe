pub mod Digits
pub mod Promises
