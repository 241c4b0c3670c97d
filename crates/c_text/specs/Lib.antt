pub mod Labels
pub mod Types
pub mod Expressions
pub mod Reading
pub mod Statements
pub mod Functions
pub mod Distinct
