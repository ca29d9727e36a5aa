pub mod Again
pub mod Bounded
pub mod Cuts
pub mod Sides
