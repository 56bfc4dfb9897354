-- Definitions that only private contracts and proofs cite.
pub mod Rising
pub mod Kept
pub mod Values
pub mod Steps
pub mod States
