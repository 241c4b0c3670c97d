pub mod Words
pub mod Expressions
pub mod Transitions
pub mod Declarations
pub mod States
