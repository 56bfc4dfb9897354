-- Definitions that private contracts alone cite.
pub mod ItemLogs
pub mod FirstLogs
pub mod Commas
pub mod Logs
pub mod Lines
