pub mod Results
pub mod Loops
