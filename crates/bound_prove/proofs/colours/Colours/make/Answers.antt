use Rattle.std.proofs.Common.{◌≡◌, length, arith}
use Rattle.std.proofs.lemmas.List.{length_push}
use Rattle.active_config.specs.Tree.{state_count}
use Rattle.checked_chart.specs.Kept.{chart_of}
use Rattle.bound_prove.specs.Tables.{event_count}
use Rattle.bound_prove.proofs.ColourLemmas.{white_pushed, made_for, white}
use Rattle.bound_prove.proofs.colours.Colours.make.Goals as goal

pub loop-init : goal.loop-init
loop-init c = record { sized = simp c.new-rows.ensures.items; each = rw c.new-rows.ensures.items (λ n r e. absurd cc) }

pub loop-preserved : goal.loop-preserved
loop-preserved c =
    let h = c.loop.invariant in
    rw c.in_ok-push.ensures.items (record {
      sized = let n = length_push c.loop.rows.items c.in_ok-row.row in let m = h.sized in omega (arith, n, m);
      each = white_pushed _ _ _ _ h.each c.in_ok-row.ensures;
    })

pub returns-clause-sized : goal.returns-clause-sized
returns-clause-sized c =
    let chart = chart_of c.args.chart.now in
    let sized : length c.loop.rows.items ≡ event_count chart =
    let h = c.loop.invariant.sized in
    let count = c.event_count-end.ensures in
    omega (arith, h, count) in
    let states : c.len-states.result ≡ state_count chart.tree = cc in
    made_for _ _ chart (record { rows = c.loop.rows }) sized c.junctions-junctions.ensures states c.loop.invariant.each

pub returns-clause-white : goal.returns-clause-white
returns-clause-white c = white _ _ (record { rows = c.loop.rows }) c.loop.invariant.each
