pub mod Resolved
pub mod Views
pub mod Plain
pub mod Promise
pub mod Faults
