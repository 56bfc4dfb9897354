-- Definitions that private contracts alone cite.
pub mod Cautious
pub mod Certain
pub mod Collided
pub mod Middles
