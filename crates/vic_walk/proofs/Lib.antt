mod Words
pub mod BitLaws
pub mod MarkLaws
pub mod PartLaws
mod Entries
pub mod Alike
mod Ruling
mod Effects
pub mod ListLaws
pub mod CutLaws
pub mod LineLaws
mod PartUids
mod OpenAnswers
pub mod Ending
pub mod Meeting
mod PartKeys
