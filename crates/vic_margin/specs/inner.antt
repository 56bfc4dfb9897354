-- Definitions that private contracts alone cite.
pub mod Trees
pub mod Counts
pub mod Tallies
pub mod Least
pub mod Opened
