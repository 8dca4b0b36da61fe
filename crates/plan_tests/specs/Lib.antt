pub mod Tests
pub mod Crossed
pub mod Marks
