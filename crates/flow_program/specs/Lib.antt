pub mod Refusals
pub mod Fmt
pub mod Newlines
pub mod Measures
pub mod CaseLine
pub mod Selftest
pub mod Ending
pub mod Answer
