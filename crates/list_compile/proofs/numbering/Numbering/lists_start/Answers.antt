use Rattle.std.proofs.Common.{ap, arith}
use Rattle.chart_code.specs.Orders.{sum_to}
use Rattle.chart_code.specs.Places.{lists_start, group_size}
use Rattle.list_compile.specs.Numberings.{chart_in}
use Rattle.list_compile.proofs.numbering.Numbering.lists_start.Goals as goal

pub returns-clause-start : goal.returns-clause-start
unfolding lists_start
returns-clause-start c =
    omega (
      arith,
      c.groups_start.ensures.start,
      c.entry.ensures,
      c.args.self.now.numbers.groups.each c.states.result (omega (arith, c.states.ensures.states)),
      ap (sum_to (group_size (chart_in c.args.self.now))) c.states.ensures.states,
    )
