pub mod Kinds
pub mod Faults
pub mod Files
pub mod Gathered
pub mod Lists
pub mod Taken
pub mod inner
