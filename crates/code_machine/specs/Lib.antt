pub mod Encoding
pub mod EncodingLaws
pub mod Frames
pub mod Jumps
pub mod Operations
pub mod States
pub mod Engine
pub mod EngineLaws
