pub mod Hops
pub mod Columns
pub mod Addresses
pub mod Acceptance
pub mod Hanging
pub mod Promises
