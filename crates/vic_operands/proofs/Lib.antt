mod KeptLaws
mod GatheringLaws
mod ListLaws
pub mod Alone
