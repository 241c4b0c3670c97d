use Rattle.std.proofs.Common.{refl}
use Rattle.sample_engine.proofs.chart.names.Goals as goal

-- the parts are those of the chart
pub returns-clause-names : goal.returns-clause-names
returns-clause-names c = rw (c.in_ok-states.ensures c.args.scale, c.in_ok-vars.ensures, c.in_ok-events.ensures c.args.scale) refl
