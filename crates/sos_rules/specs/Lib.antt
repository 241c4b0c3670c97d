pub mod Parts
pub mod Searches
pub mod Moves
pub mod Processing
pub mod Rules
pub mod Reactions
pub mod Finds
pub mod Memory
