pub mod Ends
pub mod Families
pub mod Faults
pub mod Filtered
pub mod Rows
pub mod Rules
pub mod Support
