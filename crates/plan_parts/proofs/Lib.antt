pub mod AddressRows
pub mod CopiedEnds
pub mod Searching
