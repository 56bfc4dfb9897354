pub mod Surveyed
pub mod Collected
pub mod CompleteFiles
pub mod Commands
pub mod Taken
pub mod inner
