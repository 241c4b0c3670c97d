pub mod Nets
pub mod Check
