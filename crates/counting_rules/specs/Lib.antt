pub mod Counters
pub mod Rules
pub mod Reactions
pub mod Written
pub mod Numbers
