pub mod Chart
pub mod Views
pub mod Homes
pub mod Reached
pub mod Expressions
pub mod Counts
pub mod Valid
pub mod Kept
