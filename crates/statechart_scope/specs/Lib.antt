pub mod Frames
pub mod Made
