pub mod Sets
pub mod WordBytes
