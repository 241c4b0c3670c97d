use Rattle.std.proofs.Common.{◌∙◌, sym}
use Rattle.checked_chart.specs.Kept.{chart_of}
use Rattle.bound_prove.specs.Certs.{cells_of}
use Rattle.bound_prove.specs.Colourings.{colours_of}
use Rattle.bound_prove.proofs.ChangeLemmas.{from_grey}
use Rattle.bound_prove.proofs.PlaceLemmas.{vec_none}
use Rattle.bound_prove.proofs.StackLemmas.{top_uses_done, none_met}
use Rattle.bound_prove.proofs.find.Finder.visit.Goals as goal
use Rattle.bound_prove.proofs.find.Finder.visit.Goals.{then-is_empty-via-then-is_empty}
use Rattle.bound_prove.proofs.find.Finder.visit.Goals.{then-is_empty-via-else-is_empty+then-is_grey}

-- a cell that met none looks up done cells alone, and so does a grey one
pub settle-requires-clause-uses : goal.settle-requires-clause-uses
settle-requires-clause-uses c =
    let chart = chart_of c.args.chart.now in let cell = c.args.cell in
    let k = colours_of c.args.self.now.colours in
    elim c.then-is_empty.branch [
      | then-is_empty-via-then-is_empty w ↦
          none_met chart k c.in_ok-looked.looked.met.items cell.event cell.part cell.index
          (vec_none c.in_ok-looked.looked.met c.is_empty.result c.is_empty.ensures w.if-is_empty.true)
          c.in_ok-looked.ensures.uses
      | then-is_empty-via-else-is_empty+then-is_grey w ↦
          top_uses_done chart (cells_of c.args.self.now.cert) k c.args.self.now.stack.items cell c.requires.finding.way
          (from_grey _ (sym w.is_grey.ensures ∙ w.if-is_grey.true))
    ]
