pub mod Words
pub mod Sizes
pub mod Terms
pub mod Claims
