pub mod Walking
pub mod Promises
