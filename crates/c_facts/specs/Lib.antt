pub mod Known
pub mod Facts
pub mod Asking
pub mod Claims
pub mod Views
pub mod Examples
