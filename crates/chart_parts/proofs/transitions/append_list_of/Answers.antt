use Rattle.std.proofs.Common.{length, ap, arith}
use Rattle.checked_chart.specs.Kept.{chart_of}
use Rattle.chart_parts.proofs.Turns.{list_short}
use Rattle.chart_parts.proofs.transitions.append_list_of.Goals as goal

-- a valid chart has short lists
pub append_transitions-requires : goal.append_transitions-requires
append_transitions-requires c =
    omega (
      arith,
      ap (λ ts. length ts) c.list.ensures.list,
      list_short (chart_of c.args.chart.now) c.shape.ensures.valid c.args.state c.args.kind,
    )
