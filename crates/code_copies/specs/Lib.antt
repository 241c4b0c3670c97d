pub mod Facts
pub mod Rooted
pub mod Follows
pub mod Made
pub mod SameRuns
pub mod Asking
pub mod Views
pub mod Tested
