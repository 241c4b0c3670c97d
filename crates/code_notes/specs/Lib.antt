pub mod Noteless
pub mod Whole
pub mod Views
pub mod Checked
