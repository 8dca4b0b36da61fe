pub mod Pendant
pub mod Promises
