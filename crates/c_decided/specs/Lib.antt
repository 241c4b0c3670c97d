pub mod Facts
pub mod Decided
pub mod Numbered
pub mod Walk
pub mod Made
pub mod Examples
pub mod Views
