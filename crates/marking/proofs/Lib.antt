pub mod Bounding
pub mod Comparing
pub mod Existing
pub mod Finding
pub mod Order
pub mod Shifts
pub mod Verdict
