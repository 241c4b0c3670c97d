pub mod TypeLemmas
pub mod FloorBody
pub mod FloorCalls
pub mod Unset
pub mod Fuel
