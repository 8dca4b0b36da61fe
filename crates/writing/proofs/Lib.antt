pub mod SaidWritten
pub mod GuessedPlans
