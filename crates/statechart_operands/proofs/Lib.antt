pub mod ChainLoop
pub mod Ranks
pub mod OperandLemmas
pub mod ArgumentLoop
pub mod NestLemmas
pub mod ClosedLemmas
pub mod CallLemmas
