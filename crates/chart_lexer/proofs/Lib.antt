pub mod Fronts
pub mod Cuts
pub mod Names
pub mod TokenNames
