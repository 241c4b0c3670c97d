use Rattle.std.proofs.Common.{ap, arith}
use Rattle.chart_code.specs.Places.{parts_size}
use Rattle.list_compile.specs.Numberings.{chart_in}
use Rattle.list_compile.proofs.Limits.{list_parts_low}
use Rattle.list_compile.proofs.searches.append_first.Goals as goal

pub put_list-requires-clause-low : goal.put_list-requires-clause-low
put_list-requires-clause-low c =
    omega (
      arith,
      c.parts-first.ensures.low,
      ap parts_size c.list-list.ensures.list,
      list_parts_low (chart_in c.args.numbering.now) c.states.ensures.valid c.args.search.now.state
          c.args.search.now.kind,
    )
