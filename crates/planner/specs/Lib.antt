pub mod PlanBytes
pub mod Answer
pub mod OpenColumns
pub mod Stages
pub mod Planning
pub mod Promises
