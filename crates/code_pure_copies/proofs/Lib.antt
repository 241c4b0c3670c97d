pub mod PureMade
pub mod PureWhole
