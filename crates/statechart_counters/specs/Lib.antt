pub mod Seen
pub mod Moments
pub mod Again
