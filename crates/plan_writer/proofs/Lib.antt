pub mod WrittenPlan
