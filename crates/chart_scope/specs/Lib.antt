pub mod Uses
pub mod Names
pub mod Resolution
pub mod Parts
