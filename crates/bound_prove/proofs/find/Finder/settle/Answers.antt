use Rattle.checked_chart.specs.Kept.{chart_of}
use Rattle.bound_prove.specs.Certs.{cells_of}
use Rattle.bound_prove.specs.Colourings.{IsBlack, colours_of}
use Rattle.bound_prove.proofs.FiringLemmas.{right_still}
use Rattle.bound_prove.proofs.StackLemmas.{taken_within}
use Rattle.bound_prove.proofs.StepLemmas.{needs_kept, done_kept, taken_settled}
use Rattle.bound_prove.proofs.WorkLemmas.{work_falls, black_less}
use Rattle.bound_prove.proofs.find.Finder.settle.Goals as goal

pub returns-clause-finding : goal.returns-clause-finding
returns-clause-finding c =
    let chart = chart_of c.args.chart.now in let t = c.args.cell in let s = c.args.self.now.stack.items in
    let g = cells_of c.args.self.now.cert in let g' = cells_of c.put.new.self in
    let k = colours_of c.args.self.now.colours in let k' = colours_of c.set.new.self in
    let before = c.requires.finding in
    record {
      way =
          taken_settled chart g g' k k' s t c.args.need before.way c.requires.not_done c.requires.uses
          c.requires.covers c.requires.least c.put.ensures.cell c.put.ensures.others c.set.ensures.cell
          c.set.ensures.others;
      firings =
          right_still chart g g' (IsBlack k) (IsBlack k')
          (needs_kept chart g g' k k' _ t before.way c.requires.not_done c.put.ensures.others c.set.ensures.others
          c.set.ensures.cell)
          (done_kept chart g g' k k' _ t before.way c.requires.not_done c.put.ensures.others c.set.ensures.others
          c.set.ensures.cell) c.args.self.now.firings before.firings;
      marks = before.marks;
      made = c.put.ensures.made;
      coloured = c.set.ensures.sized;
    }

pub returns-clause-fewer : goal.returns-clause-fewer
returns-clause-fewer c =
    work_falls (chart_of c.args.chart.now) (colours_of c.args.self.now.colours) (colours_of c.set.new.self) c.args.cell
    (taken_within _ _ _ _ _ c.requires.finding.way) c.set.ensures.others
    (black_less _ _ c.requires.not_done c.set.ensures.cell)
