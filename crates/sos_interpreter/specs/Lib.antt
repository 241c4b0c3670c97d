pub mod Settled
pub mod Views
pub mod Charts
pub mod Gives
pub mod Engine
pub mod EngineLaws
