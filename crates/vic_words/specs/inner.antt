-- Definitions that private contracts alone cite.
pub mod Commands
pub mod Found
