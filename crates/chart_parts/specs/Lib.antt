pub mod Parts
pub mod PartKeys
pub mod Regions
pub mod PartText
pub mod Plain
