pub mod Limits
pub mod Words
pub mod Expressions
pub mod Transitions
pub mod Types
pub mod Declarations
pub mod States
pub mod Refusals
