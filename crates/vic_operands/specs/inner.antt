-- Definitions that private contracts alone cite.
pub mod Kept
pub mod States
pub mod Lists
