pub mod Certificate
pub mod Claims
pub mod Rows
pub mod Needed
