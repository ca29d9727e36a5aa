pub mod Agreement
pub mod Counting
pub mod Descent
pub mod FromTop
pub mod Keeping
pub mod Weights
