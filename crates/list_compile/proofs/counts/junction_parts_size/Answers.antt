use Rattle.std.proofs.Common.{ap, arith}
use Rattle.checked_chart.specs.Kept.{chart_of}
use Rattle.chart_code.specs.Places.{parts_size}
use Rattle.list_compile.proofs.Limits.{junction_parts_low}
use Rattle.list_compile.proofs.counts.junction_parts_size.Goals as goal

pub parts_size-requires : goal.parts_size-requires
parts_size-requires c =
    omega (
      arith,
      ap parts_size c.junction.ensures.list,
      junction_parts_low (chart_of c.args.chart.now) c.shape.ensures.valid c.args.junction,
    )

pub returns-clause-low : goal.returns-clause-low
returns-clause-low c =
    omega (
      arith,
      c.parts_size.ensures,
      ap parts_size c.junction.ensures.list,
      junction_parts_low (chart_of c.args.chart.now) c.shape.ensures.valid c.args.junction,
    )
