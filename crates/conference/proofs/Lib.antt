pub mod SharedBits
pub mod Medians
pub mod ShortestPaths
pub mod Promises
pub mod Searching
pub mod Answers
pub mod Order
