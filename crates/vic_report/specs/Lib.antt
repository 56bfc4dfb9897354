pub mod Conflicts
pub mod Findings
pub mod Reports
pub mod inner
