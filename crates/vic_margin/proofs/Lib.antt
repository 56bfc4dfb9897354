mod Words
pub mod Trees
pub mod Turning
pub mod Steps
pub mod Places
pub mod Lowest
pub mod Telling
pub mod Counting
pub mod Differing
pub mod LawLemmas
pub mod More
pub mod Opened
pub mod Reopened
pub mod SamePopulations
mod SameVerdict
mod OneMore
mod Always
