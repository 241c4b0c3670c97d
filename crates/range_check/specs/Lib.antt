pub mod Went
pub mod Checks
pub mod Places
pub mod Runs
