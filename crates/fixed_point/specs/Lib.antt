pub mod Numbers
pub mod Scales
pub mod Text
pub mod Reading
pub mod Parts
pub mod Told
