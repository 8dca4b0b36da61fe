pub mod Refused
pub mod Answers
pub mod Delivery
pub mod Promises
