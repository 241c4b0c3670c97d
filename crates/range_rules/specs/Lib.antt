pub mod Worlds
pub mod Closed
pub mod Kept
