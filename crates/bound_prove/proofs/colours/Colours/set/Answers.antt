use Rattle.std.proofs.Common.{sym, subst}
use Rattle.bound_prove.specs.Colourings.{HasCell, SetsOnly}
use Rattle.bound_prove.proofs.ColourLemmas.{has_cell, put_others}
use Rattle.checked_chart.specs.Kept.{chart_of}
use Rattle.bound_prove.proofs.colours.Colours.set.Goals as goal

pub change-requires : goal.change-requires
change-requires c =
    subst (λ n. HasCell c.args.self.now n c.args.cell.part c.args.cell.index) (sym c.event_index.ensures)
    (has_cell (chart_of c.args.chart.now) c.args.self.now c.args.cell.event c.args.cell.part c.args.cell.index
    c.requires.sized c.requires.cell)

pub returns-clause-others : goal.returns-clause-others
returns-clause-others c =
    put_others c.args.self.now _ c.args.cell.event c.args.cell.part c.args.cell.index c.args.colour
    (subst (λ n. SetsOnly c.args.self.now c.change.new.self n c.args.cell.part c.args.cell.index c.args.colour)
    c.event_index.ensures c.change.ensures)
