use Rattle.std.proofs.Common.{◌≡◌, ◌∙◌, Bool, false, refl, sym, subst}
use Rattle.std.proofs.lemmas.List.Elements.{All-contains, All-weaker}
use Rattle.checked_chart.specs.Kept.{chart_of}
use Rattle.bound_prove.specs.declared.cell.Cell.{Cell}
use Rattle.bound_prove.specs.declared.cell.Colour.TheVariants.{Grey}
use Rattle.bound_prove.specs.Certs.{cells_of}
use Rattle.bound_prove.specs.Colourings.{IsBlack, colours_of}
use Rattle.bound_prove.specs.Lookups.{IsLedTo}
use Rattle.bound_prove.specs.Waiting.{is_grey, IsUnderWay}
use Rattle.bound_prove.proofs.ChangeLemmas.{from_grey, not_from_grey, wait_keeps}
use Rattle.bound_prove.proofs.EndLemmas.{turned_met_grey}
use Rattle.bound_prove.proofs.FiringLemmas.{right_still}
use Rattle.bound_prove.proofs.PlaceLemmas.{found, none_found}
use Rattle.bound_prove.proofs.StackLemmas.{taken_within}
use Rattle.bound_prove.proofs.StepLemmas.{cell_waits}
use Rattle.bound_prove.proofs.WorkLemmas.{work_falls, grey_less}
use Rattle.bound_prove.proofs.find.Finder.wait.Goals as goal

pub returns-then-any_grey-clause-cycle : goal.returns-then-any_grey-clause-cycle
returns-then-any_grey-clause-cycle c =
    let chart = chart_of c.args.chart.now in let t = c.args.cell in let met = c.args.met.now in
    let k' = colours_of c.set.new.self in
    let test : Cell → Bool = λ x. is_grey (k' x.event x.part x.index) in
    let y = found test met (sym c.any_grey.ensures ∙ c.if-any_grey.true) in
    λ _. turned_met_grey chart (cells_of c.args.self.now.cert) (colours_of c.args.self.now.colours) k'
    c.args.self.now.stack.items t y.0 c.requires.finding.way c.set.ensures.others
    (All-contains (IsLedTo chart t) met y.0 c.requires.led y.1) (from_grey _ y.2)

pub returns-clause-finding : goal.returns-clause-finding
returns-clause-finding c =
    let chart = chart_of c.args.chart.now in let t = c.args.cell in let met = c.args.met.now in
    let g = cells_of c.args.self.now.cert in
    let k = colours_of c.args.self.now.colours in let k' = colours_of c.set.new.self in
    let test : Cell → Bool = λ x. is_grey (k' x.event x.part x.index) in
    let before = c.requires.finding in
    λ _. record {
      way =
          subst (IsUnderWay chart g k') (sym c.in_ok-push_all.ensures)
          (cell_waits chart g k k' c.args.self.now.stack.items t met before.way c.requires.white c.set.ensures.others
          c.set.ensures.cell c.requires.led
          (All-weaker (λ (x : Cell). test x ≡ false) (λ (x : Cell). k' x.event x.part x.index ≡ Grey → ⊥)
          (λ x h. not_from_grey _ h) met (none_found test met (sym c.any_grey.ensures ∙ c.if-any_grey.false)))
          c.requires.uses);
      firings =
          right_still chart g g (IsBlack k) (IsBlack k') (λ e part i b. refl)
          (wait_keeps k k' t c.requires.white c.set.ensures.cell c.set.ensures.others) c.args.self.now.firings before.firings;
      marks = before.marks;
      made = before.made;
      coloured = c.set.ensures.sized;
    }

pub returns-clause-fewer : goal.returns-clause-fewer
returns-clause-fewer c =
    λ _. work_falls (chart_of c.args.chart.now) (colours_of c.args.self.now.colours) (colours_of c.set.new.self)
    c.args.cell (taken_within _ _ _ _ _ c.requires.finding.way) c.set.ensures.others
    (grey_less _ _ c.requires.white c.set.ensures.cell)
