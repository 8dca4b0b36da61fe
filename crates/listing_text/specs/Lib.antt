pub mod Listing
pub mod Planned
pub mod Promises
