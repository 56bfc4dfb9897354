-- Definitions that private contracts alone cite.
pub mod Widest
