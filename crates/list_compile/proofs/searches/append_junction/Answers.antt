use Rattle.std.proofs.Common.{ap, arith}
use Rattle.chart_code.specs.Places.{parts_size}
use Rattle.list_compile.specs.Numberings.{chart_in}
use Rattle.list_compile.proofs.Limits.{junction_parts_low}
use Rattle.list_compile.proofs.searches.append_junction.Goals as goal

pub put_junction-requires-clause-low : goal.put_junction-requires-clause-low
put_junction-requires-clause-low c =
    omega (
      arith,
      c.parts_of_junction-first.ensures.low,
      ap parts_size c.junction-list.ensures.list,
      junction_parts_low (chart_in c.args.numbering.now) c.states.ensures.valid c.args.junction,
    )
