use Rattle.std.proofs.Common.{length, ap, arith}
use Rattle.checked_chart.specs.Kept.{chart_of}
use Rattle.chart_parts.proofs.Turns.{junction_short}
use Rattle.chart_parts.proofs.transitions.append_junction.Goals as goal

-- a valid chart has short lists
pub append_transitions-requires : goal.append_transitions-requires
append_transitions-requires c =
    omega (
      arith,
      ap (λ ts. length ts) c.junction.ensures.list,
      junction_short (chart_of c.args.chart.now) c.shape.ensures.valid c.args.junction,
    )
