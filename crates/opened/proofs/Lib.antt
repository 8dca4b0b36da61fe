pub mod Seen
pub mod Promises
