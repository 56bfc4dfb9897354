pub mod Saying
pub mod Asked
pub mod InTurn
pub mod Written
