use Rattle.std.proofs.Common.{◌≡◌, ◌+◌, ◌≤◌, length, Vec, Global, ◌∙◌, ap, subst, sym, ◌++◌, ◌∷◌, []}
use Rattle.actions.specs.declared.event.Event.TheVariants.{Start, Tick}
use Rattle.checked_chart.specs.Kept.{chart_of}
use Rattle.bound_prove.specs.declared.need.Part.TheVariants as parts
use Rattle.actions.specs.Names.{Names}
use Rattle.bound_prove.specs.declared.cell.Cell.{Cell}
use Rattle.bound_prove.specs.Lookups.{cell_at}
use Rattle.bound_prove.proofs.RootLemmas.{AreRootsBelow, no_input, first_roots, input_step, other_step, all_roots}
use Rattle.bound_prove.proofs.find.root_cells.Goals as goal
use Rattle.bound_prove.proofs.find.root_cells.Goals.{in-Input+in_ok-push_cell-in-Input, in-Local}

pub loop-number-init : goal.loop-number-init
loop-number-init c =
    subst (AreRootsBelow (chart_of c.args.chart.now) 0)
    (sym (c.in_ok-push_cell-2.ensures
    ∙ ap (λ z. z ++ cell_at Tick parts.Process 0 ∷ [])
    (c.in_ok-push_cell.ensures ∙ ap (λ z. z ++ cell_at Start parts.Enter 0 ∷ []) c.new-cells.ensures.items)))
    (first_roots (chart_of c.args.chart.now) c.names.ensures.valid.tree.some)

pub loop-number-preserved : goal.loop-number-preserved
loop-number-preserved c =
    let chart = chart_of c.args.chart.now in let events = c.items-event-items.result.now in
    let same : events ≡ chart.names.events =
    c.items-event-items.ensures ∙ ap (λ (n : Names). n.events) c.names.ensures.names in
    let root = c.names.ensures.valid.tree.some in let n = c.loop-number.number in
    elim c.match-event.branch [
      | in-Input+in_ok-push_cell-in-Input w ↦
          subst (AreRootsBelow chart (n + 1))
          (sym (ap (λ (v : Vec Cell Global). v.items) w.cells-is ∙ w.in_ok-push_cell-in-Input.ensures))
          (input_step chart root events same n c.event-item.result c.loop-number.cells.items c.loop-number-test.true
          c.event-item.is w.in-Input.is c.loop-number.invariant)
      | in-Local w ↦
          subst (AreRootsBelow chart (n + 1)) (sym (ap (λ (v : Vec Cell Global). v.items) w.cells-is))
          (other_step chart root events same n c.event-item.result c.loop-number.cells.items c.loop-number-test.true
          c.event-item.is (no_input _ w.in-Local.is) c.loop-number.invariant)
    ]

pub returns : goal.returns
returns c =
    let chart = chart_of c.args.chart.now in let events = c.items-event-items.result.now in
    let same : events ≡ chart.names.events =
    c.items-event-items.ensures ∙ ap (λ (n : Names). n.events) c.names.ensures.names in
    all_roots chart c.names.ensures.valid.tree.some c.loop-number.number c.loop-number.cells.items
    (subst (λ z. length z ≤ c.loop-number.number) same c.loop-number-test.false) c.loop-number.invariant
