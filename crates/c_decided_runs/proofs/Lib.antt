pub mod Runs
pub mod Refusing
pub mod Checking
