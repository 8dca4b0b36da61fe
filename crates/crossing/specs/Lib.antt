pub mod Differing
pub mod Crossing
pub mod Promises
