pub mod Nodes
pub mod Cells
pub mod inner
