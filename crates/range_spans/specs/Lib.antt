pub mod Spans
pub mod Known
pub mod Narrow
pub mod Boxes
pub mod Sorts
