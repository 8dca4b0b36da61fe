pub mod Promises
pub mod PlanCalls
pub mod OpenedPlans
pub mod Cases
pub mod TestCases
