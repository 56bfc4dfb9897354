-- Definitions that private contracts alone cite.
pub mod Positions
pub mod Rows
pub mod Steps
