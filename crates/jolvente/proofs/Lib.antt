pub mod RecordBytes
pub mod Returned
pub mod Answers
pub mod PlanPromise
pub mod WalkArrival
pub mod WalkAnswer
pub mod Promises
