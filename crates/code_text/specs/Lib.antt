pub mod Written
pub mod Spelling
pub mod Reading
pub mod Form
pub mod Views
