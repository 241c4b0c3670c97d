pub mod Kept
pub mod Following
pub mod Opposed
pub mod Parts
pub mod Calling
pub mod Law
