pub mod Told
pub mod Parts
pub mod Ends
