pub mod Cuts
pub mod Lines
pub mod Spelling
pub mod Scales
pub mod Fields
pub mod Expressions
pub mod Views
