pub mod Leaf
pub mod Shapes
pub mod Top
pub mod Levels
pub mod Asking
