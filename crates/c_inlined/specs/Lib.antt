pub mod Continued
pub mod Files
pub mod Inlined
