pub mod ReadParts
pub mod ChangedPlans
pub mod ChangedSums
pub mod Refusals
pub mod Planned
pub mod Promises
pub mod Answers
