pub mod TableRule
pub mod Searching
pub mod Bytes
pub mod Promises
