mod Words
pub mod Bits
pub mod WidestLaws
pub mod LowBits
pub mod CutLaws
pub mod CellLaws
pub mod Covered
