mod Words
pub mod Keys
pub mod TagLaws
pub mod PositionLaws
pub mod RowLaws
pub mod FieldRows
pub mod Numbering
pub mod Outcomes
pub mod Rounds
pub mod Listing
pub mod Played
pub mod Follows
