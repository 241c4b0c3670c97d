pub mod Leads
pub mod Inside
pub mod Splits
pub mod Steps
