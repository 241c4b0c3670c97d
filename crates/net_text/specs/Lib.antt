pub mod NetTexts
pub mod Fields
pub mod Reading
pub mod Views
pub mod Faults
pub mod Routes
