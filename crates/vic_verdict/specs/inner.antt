-- Definitions that private contracts alone cite.
pub mod Chosen
pub mod Impossible
