use Rattle.code_copies.proofs.AskingWhole.{asking_same_runs}
use Rattle.code_copies.proofs.laws.code_that_asks_for_events_has_the_same_runs.Goals as goal

pub returns : goal.returns
returns c es k well may = asking_same_runs es k well may
