use Rattle.std.proofs.Common.{arith}
use Rattle.code_shrink.proofs.KeptLemmas.{past_within}
use Rattle.code_shrink.proofs.kept.count_from.Goals as goal

-- as many as there are counts at most
pub overflow_add-result : goal.overflow_add-result
overflow_add-result c =
    let past = c.kept_past-past.ensures in
    let within = past_within c.args.counts.now c.requires.counts in omega (arith, past, within)
