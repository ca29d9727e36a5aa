pub mod Bounds
pub mod Marks
