pub mod Parts
pub mod Seen
