pub mod CallerRefusal
pub mod Promises
