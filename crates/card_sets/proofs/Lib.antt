pub mod WordBytes
pub mod PutBytes
pub mod ColumnWords
pub mod EightColumns
