pub mod PlacedLines
pub mod Placing
