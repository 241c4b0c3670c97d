use Rattle.actions.proofs.RunLemmas.{Runs-one}
use Rattle.actions.proofs.runs.a_run_has_one_outcome.Goals as goal

pub returns : goal.returns
returns g c = λ p events moments other.
    Runs-one (g.E.Engine.Starts p) (g.E.Engine.Reacts p) (g.met.E.Engine.one_start p) (g.met.E.Engine.one_reaction p) events moments other
