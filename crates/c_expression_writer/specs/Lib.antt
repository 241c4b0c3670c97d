pub mod Locals
pub mod Written
