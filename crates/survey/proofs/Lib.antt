pub mod Forms
pub mod Marks
pub mod Flags
pub mod Rows
pub mod Passes
pub mod FirstBounds
pub mod Levels
