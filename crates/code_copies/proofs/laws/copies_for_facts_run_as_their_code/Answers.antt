use Rattle.code_copies.proofs.Endings.{same_runs}
use Rattle.code_copies.proofs.laws.copies_for_facts_run_as_their_code.Goals as goal

pub returns : goal.returns
returns c k k' keys h b events moments = same_runs k k' keys h b events moments
