pub mod Counts
pub mod Grades
pub mod Kinds
pub mod Laws
pub mod Loads
pub mod Recursive
pub mod Spelling
pub mod Weighing
