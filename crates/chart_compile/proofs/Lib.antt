pub mod Codes
pub mod Copies
pub mod WellFormed
pub mod Compiled
