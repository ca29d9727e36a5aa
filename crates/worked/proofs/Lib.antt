pub mod Filters
pub mod Marks
pub mod Shown
pub mod Tests
