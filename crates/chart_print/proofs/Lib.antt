pub mod Written
pub mod Digits
pub mod StateViews
pub mod PlacesLemmas
