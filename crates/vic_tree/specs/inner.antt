-- Definitions that only private contracts and proofs cite.
pub mod Ranges
pub mod KeptMasks
pub mod Stretches
pub mod Tallies
