use Rattle.code_copies.proofs.SameRunsLemmas.{same_itself, same_shrunk, same_both, runs_same}
use Rattle.code_copies.proofs.laws.passes_with_the_same_runs_compose.Goals as goal

pub returns-clause-itself : goal.returns-clause-itself
returns-clause-itself c k well = same_itself k well

pub returns-clause-shrunk : goal.returns-clause-shrunk
returns-clause-shrunk c k k' h = same_shrunk k k' h

pub returns-clause-both : goal.returns-clause-both
returns-clause-both c k k' k'' h g = same_both k k' k'' h g

pub returns-clause-runs : goal.returns-clause-runs
returns-clause-runs c k k' h b events moments = runs_same k k' h b events moments
