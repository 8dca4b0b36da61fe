pub mod Changed
pub mod Changing
