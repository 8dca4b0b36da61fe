pub mod Plan
pub mod Promises
pub mod Reading
pub mod ReadPlans
