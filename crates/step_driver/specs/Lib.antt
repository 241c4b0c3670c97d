pub mod StepRuns
pub mod Traces
pub mod Driving
pub mod Causes
pub mod NextLines
pub mod Parts
pub mod Ending
pub mod Leaving
