use Rattle.actions.proofs.RunLemmas.{Runs-front}
use Rattle.actions.proofs.runs.the_front_of_a_run_is_a_run.Goals as goal

pub returns : goal.returns
returns g c = λ p events more moments. Runs-front (g.E.Engine.Starts p) (g.E.Engine.Reacts p) events more moments
