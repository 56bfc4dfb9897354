mod Words
pub mod KeptLogs
pub mod Conflicts
pub mod RuledOut
mod NotedLines
mod Searching
pub mod Telling
pub mod AllFindings
