pub mod Conference
pub mod Callers
pub mod Promises
