pub mod Pairs
pub mod Totals
pub mod Products
pub mod Chains
pub mod Promises
