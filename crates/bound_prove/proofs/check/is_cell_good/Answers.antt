use Rattle.std.proofs.Common.{refl, subst}
use Rattle.checked_chart.specs.Kept.{chart_of}
use Rattle.bound_prove.specs.Certs.{cells_of}
use Rattle.bound_prove.specs.Needs.{Covers}
use Rattle.bound_prove.proofs.CheckLemmas.{ends_good}
use Rattle.bound_prove.proofs.check.is_cell_good.Goals as goal

pub returns-then-covers-clause-good : goal.returns-then-covers-clause-good
returns-then-covers-clause-good c =
    let cell = c.args.cell in
    let given = c.look-given.result in
    let at_ends = subst (Covers given) c.the_ends.ensures (c.covers.ensures.0 c.if-covers.true) in (
      λ t. ends_good (chart_of c.args.chart.now) (cells_of c.args.cert.now) cell.event cell.part cell.index given
          c.look-given.ensures at_ends,
      λ good. refl,
    )
