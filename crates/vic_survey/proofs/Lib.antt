mod Words
pub mod Joined
mod ValueWords
pub mod Spelled
pub mod ValueLaws
pub mod RisingLaws
pub mod LineLaws
mod RunWords
pub mod Single
pub mod Runs
pub mod Complete
pub mod Wrong
pub mod Made
pub mod Merged
pub mod Throughout
pub mod Ranges
