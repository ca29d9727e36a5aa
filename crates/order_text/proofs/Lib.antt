pub mod Making
pub mod Reading
