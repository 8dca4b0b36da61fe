pub mod Forwarding
pub mod Calls
pub mod Parts
pub mod Promises
