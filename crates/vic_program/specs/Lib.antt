pub mod Ends
pub mod Lines
pub mod FilesView
pub mod Written
pub mod Each
pub mod Single
pub mod Runs
pub mod Program
