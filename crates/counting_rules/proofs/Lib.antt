pub mod Together
pub mod Grows
pub mod Written
pub mod Counts
pub mod Plain
pub mod Reactions
pub mod Numbers
