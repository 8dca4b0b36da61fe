pub mod Records
pub mod CCalls
pub mod Promises
