pub mod Counts
pub mod Groups
pub mod Named
pub mod Numbers
pub mod Types
pub mod Parts
