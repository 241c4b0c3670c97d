pub mod Each
pub mod Cuts
pub mod Shallow
pub mod SameRuns
