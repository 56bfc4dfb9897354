-- Definitions that private contracts alone cite.
pub mod Bits
pub mod Gathered
pub mod Searching
pub mod Ruled
pub mod WalkState
pub mod PartUids
pub mod RangesTo
pub mod Unmet
