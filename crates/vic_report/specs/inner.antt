-- Definitions that private contracts alone cite.
pub mod KeptLogs
pub mod NotedLines
