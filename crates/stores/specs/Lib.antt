pub mod Bounds
pub mod Faults
pub mod Kept
pub mod Runs
pub mod Stores
