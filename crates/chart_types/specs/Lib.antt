pub mod Types
pub mod Literals
