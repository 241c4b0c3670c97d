pub mod Ends
pub mod Cells
pub mod Finds
