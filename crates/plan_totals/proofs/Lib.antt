pub mod Summing
pub mod Refusals
pub mod Answers
