pub mod Fields
pub mod Frames
pub mod Inventory
pub mod Lines
pub mod Names
pub mod Simulated
pub mod Run
pub mod Beside
