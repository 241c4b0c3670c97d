pub mod Trace
pub mod TraceParts
pub mod Pieces
pub mod LineEnds
