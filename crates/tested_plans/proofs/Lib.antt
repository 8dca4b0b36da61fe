pub mod Crossed
pub mod Embedded
pub mod ColumnOrder
pub mod Bytes
pub mod Tests
pub mod Passing
pub mod Planned
pub mod Promises
