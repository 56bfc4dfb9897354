pub mod Tags
pub mod Keys
pub mod Bits
pub mod Positions
pub mod Rows
pub mod Simulation
pub mod inner
