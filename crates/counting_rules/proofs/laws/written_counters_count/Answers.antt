use Rattle.counting_rules.proofs.Reactions.{start_counts, reaction_counts, start_is_counted, reaction_is_counted}
use Rattle.counting_rules.proofs.Reactions.{run_counts, run_is_counted}
use Rattle.counting_rules.proofs.Written.{written_out}
use Rattle.counting_rules.proofs.laws.written_counters_count.Goals as goal

pub returns-clause-start : goal.returns-clause-start
returns-clause-start x c k way b w f h tree =
    let o = written_out c k way h in
    (start_counts c k way _ o b _, start_is_counted c k way _ o b tree _)

pub returns-clause-reaction : goal.returns-clause-reaction
returns-clause-reaction x c k way b w v e f h tree =
    let o = written_out c k way h in
    (reaction_counts c k way _ o b w e _, reaction_is_counted c k way _ o b tree w e _)

pub returns-clause-run : goal.returns-clause-run
returns-clause-run x c k way b events moments h tree =
    let o = written_out c k way h in
    (run_counts c k way _ o b events moments, run_is_counted c k way _ o b tree events moments)
