-- Definitions that private contracts alone cite.
pub mod Spans
pub mod Reading
pub mod Faults
pub mod Head
pub mod Kept
pub mod Sets
