pub mod Broken
pub mod Cut
pub mod Reading
pub mod Wrapped
