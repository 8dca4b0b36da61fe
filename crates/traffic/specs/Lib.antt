pub mod Traffic
pub mod Promises
