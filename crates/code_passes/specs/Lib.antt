pub mod Tags
pub mod Passed
