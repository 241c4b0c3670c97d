use Rattle.std.proofs.Common.{arith}
use Rattle.chart_code.specs.Places.{junction_parts_at}
use Rattle.list_compile.proofs.numbering.Numbering.parts_of_junction.Goals as goal

pub returns-clause-parts : goal.returns-clause-parts
unfolding junction_parts_at
returns-clause-parts c =
    omega (
      arith,
      c.junction_parts_start.ensures.start,
      c.entry.ensures,
      c.args.self.now.numbers.junction_parts.each c.args.junction (omega (arith, c.requires)),
    )
