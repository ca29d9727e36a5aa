pub mod Entries
pub mod Lines
pub mod Text
pub mod Words
