pub mod Fields
pub mod Deciding
pub mod Passed
pub mod Standing
