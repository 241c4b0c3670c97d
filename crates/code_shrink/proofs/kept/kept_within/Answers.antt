use Rattle.std.proofs.Common.{arith}
use Rattle.code_shrink.proofs.KeptLemmas.{past_less, count_between}
use Rattle.code_shrink.proofs.kept.kept_within.Goals as goal

-- no more are kept past some places than from the first one on
pub overflow_sub-result : goal.overflow_sub-result
overflow_sub-result c =
    let all = c.kept_past.ensures in let past = c.kept_past-2.ensures in
    let less = past_less c.args.counts.now c.args.over c.requires in omega (arith, all, past, less)

-- the difference is how many of them are kept
pub returns : goal.returns
returns c kept h =
    let all = c.kept_past.ensures in let past = c.kept_past-2.ensures in
    let between = count_between c.args.counts.now kept c.args.over h in cc
