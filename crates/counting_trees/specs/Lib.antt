pub mod Counters
pub mod Counting
pub mod Numbers
pub mod Written
pub mod Assigns
