use Rattle.std.proofs.Common.{◌≡◌, ◌<◌, [], length, map, ap, ◌∙◌, sym, subst}
use Rattle.std.specs.Prelude.{slice_index_or}
use Rattle.checked_chart.specs.Chart.{junction, junction_count}
use Rattle.checked_chart.specs.Kept.{Kept, chart_of}
use Rattle.checked_chart.specs.Valid.{IsValid, AreTrans}
use Rattle.checked_chart.specs.Views.{list_seen}
use Rattle.checked_chart.proofs.PartsLemmas.{found_twice, within_twice, junction_valid}
use Rattle.checked_chart.proofs.chart.Chart.junction.Goals as goal

pub returns-clause-list : goal.returns-clause-list
unfolding chart_of junction junction_count
returns-clause-list c =
    let lt : c.args.junction < length c.self.inside.junctions.items =
    within_twice list_seen (λ j. j.items) c.self.inside.junctions.items c.args.junction
    (subst (λ (k : Kept). c.args.junction < length (map list_seen k.junctions)) (sym c.self.view_is) c.requires) in
    ap list_seen c.deref.ensures.value
    ∙ sym (found_twice list_seen (λ j. j.items) c.self.inside.junctions.items c.args.junction c.index.result.now _ [] lt
    c.index.ensures)
    ∙ ap (λ (k : Kept). slice_index_or (map list_seen k.junctions) c.args.junction []) c.self.view_is

-- the list of a junction of a valid chart is valid
pub returns-clause-valid : goal.returns-clause-valid
unfolding chart_of junction junction_count
returns-clause-valid c =
    let valid = subst (λ k. IsValid (chart_of k)) c.self.view_is c.self.invariant in
    let lt : c.args.junction < length c.self.inside.junctions.items =
    within_twice list_seen (λ j. j.items) c.self.inside.junctions.items c.args.junction
    (subst (λ (k : Kept). c.args.junction < length (map list_seen k.junctions)) (sym c.self.view_is) c.requires) in
    let seen : list_seen c.deref.result.now ≡ junction (chart_of c.args.self.now) c.args.junction =
    ap list_seen c.deref.ensures.value
    ∙ sym (found_twice list_seen (λ j. j.items) c.self.inside.junctions.items c.args.junction c.index.result.now _ [] lt
    c.index.ensures)
    ∙ ap (λ (k : Kept). slice_index_or (map list_seen k.junctions) c.args.junction []) c.self.view_is in
    subst (AreTrans (chart_of c.args.self.now)) (sym seen)
    (junction_valid (chart_of c.args.self.now) valid c.args.junction)
