use Rattle.counting_log.proofs.Exact.{exact_start, exact_reaction}
use Rattle.counting_log.proofs.Runs.{run_counts}
use Rattle.counting_log.proofs.laws.counters_without_assignments_are_exact.Goals as goal

pub returns-clause-start : goal.returns-clause-start
returns-clause-start _ c k b v s e greatest n own only first = exact_start c k b v s e greatest n own only first

pub returns-clause-reaction : goal.returns-clause-reaction
returns-clause-reaction _ c k b v s e greatest n w log event own only before =
    exact_reaction c k b v s e greatest n own only w log event before

pub returns-clause-run : goal.returns-clause-run
returns-clause-run _ c k b v s e greatest events moments own only first free all run =
    run_counts c k b v s e greatest own only free events moments first all run
