pub mod Tables
pub mod Marks
pub mod Flags
pub mod Lowering
