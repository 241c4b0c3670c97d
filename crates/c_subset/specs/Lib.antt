pub mod Trees
pub mod Meaning
pub mod Running
pub mod Helpers
pub mod Lines
