use Rattle.actions.specs.Trees.{expr_of}
use Rattle.checked_chart.specs.Kept.{chart_of}
use Rattle.range_check.proofs.CloseLemmas.{KnownBefore}
use Rattle.range_check.proofs.claims.unproved_at.Given as goal

abbrev pub invariant-loop-i : goal.invariant-loop-i
invariant-loop-i l = KnownBefore (chart_of l.chart) l.cert (expr_of l.claim) l.i
