use Rattle.std.proofs.Common.{◌≡◌, ◌+◌, suc, ap, arith}
use Rattle.chart_code.specs.Orders.{sum_to, sum_between}
use Rattle.chart_code.specs.Places.{lists_at, lists_size}
use Rattle.list_compile.specs.Numberings.{chart_in}
use Rattle.list_compile.proofs.numbering.Numbering.lists.Goals as goal

pub returns-clause-lists : goal.returns-clause-lists
unfolding lists_at sum_between
returns-clause-lists c =
    let f = lists_size (chart_in c.args.self.now) in
    let table = c.args.self.now.numbers.lists in
    let next : c.args.state + 1 ≡ suc c.args.state = omega arith in
    omega (
      arith,
      c.lists_start.ensures.start,
      c.entry.ensures,
      c.entry-before.ensures,
      c.saturating_sub.ensures,
      table.each c.states-states.result (omega (arith, c.states-states.ensures.states)),
      ap (sum_to f) c.states-states.ensures.states,
      table.each (c.args.state + 1) (omega (arith, c.requires)),
      ap (sum_to f) next,
    )
