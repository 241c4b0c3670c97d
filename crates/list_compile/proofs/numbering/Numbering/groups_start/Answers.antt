use Rattle.std.proofs.Common.{ap, arith}
use Rattle.chart_code.specs.Orders.{sum_to}
use Rattle.chart_code.specs.Places.{groups_start, junction_parts_size}
use Rattle.list_compile.specs.Numberings.{chart_in}
use Rattle.list_compile.proofs.numbering.Numbering.groups_start.Goals as goal

pub returns-clause-start : goal.returns-clause-start
unfolding groups_start
returns-clause-start c =
    omega (
      arith,
      c.junction_parts_start.ensures.start,
      c.entry.ensures,
      c.args.self.now.numbers.junction_parts.each c.junctions.result (omega (arith, c.junctions.ensures)),
      ap (sum_to (junction_parts_size (chart_in c.args.self.now))) c.junctions.ensures,
    )
