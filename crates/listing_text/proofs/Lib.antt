pub mod CardLines
pub mod Refused
pub mod Fits
pub mod Listings
pub mod Promises
