pub mod Counts
pub mod Columns
pub mod SamePairs
pub mod Behind
pub mod Steps
pub mod LastCard
pub mod Promises
