-- Definitions that private contracts alone cite.
pub mod ReadBytes
pub mod Pieces
pub mod FindingsLeft
