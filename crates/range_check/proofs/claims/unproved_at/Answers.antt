use Rattle.std.proofs.Common.{arith}
use Rattle.actions.specs.Trees.{expr_of}
use Rattle.checked_chart.specs.Kept.{chart_of}
use Rattle.range_check.proofs.CloseLemmas.{known_all, proved_in_runs}
use Rattle.range_check.proofs.claims.unproved_at.Goals as goal

pub returns-clause-runs : goal.returns-clause-runs
returns-clause-runs c = λ e closed.
    proved_in_runs (chart_of c.args.chart.now) c.args.cert.now (expr_of c.args.claim.now)
    (known_all (chart_of c.args.chart.now) c.args.cert.now (expr_of c.args.claim.now) c.loop-i.i (omega arith)
    c.loop-i.invariant) closed
