use Rattle.std.proofs.Common.{◌≤◌, subst, arith}
use Rattle.checked_chart.specs.declared.limits.TheConstants.{PAIR_LIMIT}
use Rattle.resolved_tree.specs.Views.{resolved_of}
use Rattle.chart_check.specs.Check.{IsAnswer}
use Rattle.chart_check.proofs.PairLemmas.{pairs_are}
use Rattle.chart_check.proofs.pass.structure_pairs.Goals as goal

-- the number of pairs is at most their limit
pub overflow_cast-result : goal.overflow_cast-result
overflow_cast-result c =
    let r = resolved_of c.args.resolved.now in
    let pairs = c.in-Ok.found.pairs in
    let few : pairs ≤ PAIR_LIMIT = (pairs_are r pairs c.requires.resolved
    (subst (IsAnswer r) c.in-None.is c.in-Ok.ensures.fault) c.in-Ok.ensures.pairs).few in
    omega arith

-- it is that of the chart
pub returns-in-None-clause-pairs : goal.returns-in-None-clause-pairs
returns-in-None-clause-pairs c =
    let r = resolved_of c.args.resolved.now in
    (pairs_are r c.in-Ok.found.pairs c.requires.resolved
    (subst (IsAnswer r) c.in-None.is c.in-Ok.ensures.fault) c.in-Ok.ensures.pairs).are
