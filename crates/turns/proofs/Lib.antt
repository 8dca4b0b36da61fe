pub mod Turning
pub mod Fairness
pub mod Promises
