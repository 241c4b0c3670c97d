use Rattle.std.proofs.Common.{◌<◌, ◌∙◌, ◌-◌, length, [], ℕ, ap, arith}
use Rattle.flow_base.specs.Lists.{items_of}
use Rattle.checked_chart.specs.Chart.{junction, junction_count}
use Rattle.checked_chart.specs.Kept.{chart_of}
use Rattle.checked_chart.specs.Views.{list_seen}
use Rattle.chart_code.specs.ReachedJunctions.{reached, meet, junctions_to}
use Rattle.list_compile.proofs.Spreads.{get_in, spread_start, spread_turn, spread_over, spread_none, met_below}
use Rattle.list_compile.proofs.Spreads.{targets_below}
use Rattle.list_compile.proofs.reached.reached.Goals as goal
use Rattle.list_compile.proofs.reached.reached.Goals.{else-loop-place-test}
use Rattle.list_compile.proofs.reached.reached.Goals.{then-loop-place-test+then-place-items}

pub loop-place-init : goal.loop-place-init
unfolding reached
loop-place-init c =
    let chart = chart_of c.args.chart.now in
    let start =
    c.in_ok-meet_all.ensures
    ∙ ap (λ found. meet found (junctions_to (list_seen c.args.list.now))) (c.of-found.ensures ∙ c.new.ensures.items) in
    record {
      same = spread_start (λ j. junctions_to (junction chart j)) (junction_count chart) _ _ start;
      within =
          met_below (junction_count chart) [] (junctions_to (list_seen c.args.list.now)) _ start tt
          (targets_below chart (list_seen c.args.list.now) c.requires);
    }

pub loop-place-preserved : goal.loop-place-preserved
loop-place-preserved c =
    let chart = chart_of c.args.chart.now in
    let n = junction_count chart in
    let found = items_of c.loop-place.found in
    let step = c.in_ok-meet_all-2.ensures ∙ ap (λ ts. meet found (junctions_to ts)) c.junction.ensures.list in
    let lt = c.if-place-items.false in
    let there : c.loop-place.place < n = omega (arith, c.loop-place-test.true, c.junctions-place-end.ensures) in
    let within = c.loop-place.invariant.within in
    record {
      same =
          spread_turn (λ j. junctions_to (junction chart j)) n c.loop-place.place _ found _ _ there
          (get_in found c.items-in-loop-place.result.now c.loop-place.place 0 c.items-in-loop-place.ensures
          (omega (arith, lt, ap (λ xs. length xs) c.items.ensures, ap (λ xs. length xs) c.items-in-loop-place.ensures)))
          c.loop-place.invariant.same step;
      within =
          met_below n found (junctions_to (list_seen c.junction.result.now)) _ c.in_ok-meet_all-2.ensures within
          (targets_below chart (list_seen c.junction.result.now) c.junction.ensures.valid);
    }

pub returns-clause-reached : goal.returns-clause-reached
returns-clause-reached c =
    let chart = chart_of c.args.chart.now in
    let next = (λ (j : ℕ). junctions_to (junction chart j)) in
    let n = junction_count chart in
    let found = items_of c.loop-place.found in
    let all = reached chart (list_seen c.args.list.now) in
    elim c.loop-place-test.branch [
      | else-loop-place-test w ↦
          spread_over next n c.loop-place.place found all
          (omega (arith, w.loop-place-test.false, c.junctions-place-end.ensures)) c.loop-place.invariant.same
      | then-loop-place-test+then-place-items w ↦
          spread_none next (n - c.loop-place.place) c.loop-place.place found all
          (omega (arith, w.if-place-items.true, ap (λ xs. length xs) w.items.ensures)) c.loop-place.invariant.same
    ]
