pub mod Tells
pub mod Since
pub mod Assigned
pub mod Exact
pub mod Runs
