use Rattle.std.proofs.Common.{ap, arith}
use Rattle.chart_code.specs.Orders.{sum_to}
use Rattle.chart_code.specs.Places.{junction_parts_start, state_parts_size}
use Rattle.list_compile.specs.Numberings.{chart_in}
use Rattle.list_compile.proofs.numbering.Numbering.junction_parts_start.Goals as goal

pub returns-clause-start : goal.returns-clause-start
unfolding junction_parts_start
returns-clause-start c =
    omega (
      arith,
      c.state_parts_start.ensures.start,
      c.entry.ensures,
      c.args.self.now.numbers.parts.each c.states.result (omega (arith, c.states.ensures.states)),
      ap (sum_to (state_parts_size (chart_in c.args.self.now))) c.states.ensures.states,
    )
