-- Definitions that private contracts alone cite.
pub mod Deaf
pub mod Digits
pub mod Text
pub mod UidSets
