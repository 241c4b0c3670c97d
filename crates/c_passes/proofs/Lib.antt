pub mod FunctionLemmas
pub mod HeadLemmas
mod PassLemmas
pub mod StandLemmas
mod TypeLemmas
mod PlanLemmas
