-- Definitions that private contracts alone cite.
pub mod NameSets
pub mod Told
pub mod Placed
pub mod Without
pub mod FoundItems
