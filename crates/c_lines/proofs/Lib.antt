pub mod Breaks
pub mod Cuts
pub mod Fitting
pub mod Letters
pub mod Readings
pub mod ShortLines
