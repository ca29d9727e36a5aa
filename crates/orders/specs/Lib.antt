pub mod Said
pub mod Marks
pub mod Parse
pub mod Within
pub mod Format
pub mod Answers
pub mod Surveyed
