pub mod ChangedBytes
pub mod Refused
pub mod Answers
