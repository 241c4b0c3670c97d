pub mod Draws
pub mod Cases
