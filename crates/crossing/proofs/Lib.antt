pub mod Differing
pub mod LinkColumns
pub mod Crossed
pub mod Searching
pub mod Answers
pub mod Named
pub mod StepLocal
pub mod Promises
