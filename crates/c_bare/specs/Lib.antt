pub mod Needs
pub mod Scanning
pub mod Bare
