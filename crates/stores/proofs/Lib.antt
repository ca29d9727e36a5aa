pub mod Cells
pub mod Spans
