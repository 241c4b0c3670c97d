pub mod Ends
pub mod Tests
pub mod Pruned
