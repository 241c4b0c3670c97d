use Rattle.std.proofs.Common.{◌≡◌, ◌<◌, false, length, refl, sym, ap, ◌∙◌, arith}
use Rattle.std.proofs.lemmas.Result.{err_from_is_err_and}
use Rattle.trace_text.specs.Pieces.{Held}
use Rattle.trace_text.proofs.PieceLemmas.{nothing_put}
use Rattle.step_driver.proofs.Buffered.{between, end_stops, next_failed}
use Rattle.chart_net.specs.NetDriving.{NetDrives, net_runs}
use Rattle.chart_net.specs.NetParts.{charts_of, net_shown, routes_of}
use Rattle.chart_net.proofs.DriverLemmas.{all_started, names_count, none_started, shown_same, stands_before}
use Rattle.chart_net.proofs.NetDriven.{driver_laws, falls_after, never_memory, no_read, none_falls, read_cause}
use Rattle.chart_net.proofs.NetDriven.{same_memory, starting_all, starting_first, writes_same}
use Rattle.chart_net.proofs.NetMoves.{line_over, line_put, next_over, start_more, start_over, starts_put}
use Rattle.chart_net.proofs.OneRun.{gives_one}
use Rattle.chart_net.proofs.driver.run_lines.Goals as goal

-- ---- the starts

-- no chart was started
pub loop-c-init : goal.loop-c-init
loop-c-init g c =
    let x = g.G.Engine in
    let whole = c.requires.whole in
    record {
      starting = starting_first (net_shown x c.args.net.now) _ _ (stands_before x c.args.net.now whole)
          (nothing_put _ _ _ _ _ _ refl refl refl);
      charts = refl;
      routes = refl;
      sound = whole.sound;
      stages = none_started x c.args.net.now whole;
      usable = ap (λ (h : Held). h.failed) c.requires.empty;
    }

-- what a start needs
pub start_chart-requires-clause-sound : goal.start_chart-requires-clause-sound
start_chart-requires-clause-sound g c = c.loop-c.invariant.sound

pub start_chart-requires-clause-there : goal.start_chart-requires-clause-there
start_chart-requires-clause-there g c =
    let x = g.G.Engine in
    let first = c.args.net.now in
    let inv = c.loop-c.invariant in
    omega (
      arith,
      names_count x first,
      names_count x c.loop-c.net,
      ap (λ n. length n.names) (shown_same x first c.loop-c.net inv.charts inv.routes),
    )

pub start_chart-requires-clause-stages : goal.start_chart-requires-clause-stages
start_chart-requires-clause-stages g c = c.loop-c.invariant.stages

pub start_chart-requires-clause-usable : goal.start_chart-requires-clause-usable
start_chart-requires-clause-usable g c = c.loop-c.invariant.usable

-- the run ends at a start
pub returns-in_err-start_chart-clause-ends : goal.returns-in_err-start_chart-clause-ends
returns-in_err-start_chart-clause-ends g c =
    let x = g.G.Engine in
    let first = c.args.net.now in
    let net = net_shown x first in
    let one = gives_one x g.met.G.Engine.one_start g.met.G.Engine.one_reaction (charts_of x first) (routes_of first) in
    let p = err_from_is_err_and c.from_residual.result c.from_residual.ensures.1 in
    let inv = c.loop-c.invariant in
    let e = c.in_err-start_chart.ensures in
    let same = shown_same x first c.loop-c.net inv.charts inv.routes in
    let few : c.loop-c.c < length net.names = omega (arith, names_count x first) in
    rw (p.1, p.2) (start_over net (net_shown x c.loop-c.net) _ _ _ _ _ _ _ _ _ _ _ _ c.loop-c.c _ same one
    c.requires.empty e.failed e.reads few inv.starting e.done)

pub returns-in_err-start_chart-clause-failed : goal.returns-in_err-start_chart-clause-failed
returns-in_err-start_chart-clause-failed g c =
    let p = err_from_is_err_and c.from_residual.result c.from_residual.ensures.1 in
    rw (p.1, p.2) c.in_err-start_chart.ensures.failed

pub returns-in_err-start_chart-clause-charts : goal.returns-in_err-start_chart-clause-charts
returns-in_err-start_chart-clause-charts g c = c.in_err-start_chart.ensures.charts ∙ c.loop-c.invariant.charts

pub returns-in_err-start_chart-clause-routes : goal.returns-in_err-start_chart-clause-routes
returns-in_err-start_chart-clause-routes g c = c.in_err-start_chart.ensures.routes ∙ c.loop-c.invariant.routes

pub returns-in_err-start_chart-clause-others : goal.returns-in_err-start_chart-clause-others
returns-in_err-start_chart-clause-others g c = λ other ne. refl

pub returns-in_err-start_chart-clause-counts : goal.returns-in_err-start_chart-clause-counts
returns-in_err-start_chart-clause-counts g c = none_falls _

pub returns-in_err-start_chart-clause-reads : goal.returns-in_err-start_chart-clause-reads
returns-in_err-start_chart-clause-reads g c =
    let p = err_from_is_err_and c.from_residual.result c.from_residual.ensures.1 in
    rw (p.1, p.2) (no_read _ _ _ _ c.in_err-start_chart.ensures.reads (λ other. refl))

pub returns-in_err-start_chart-clause-over : goal.returns-in_err-start_chart-clause-over
returns-in_err-start_chart-clause-over g c =
    let p = err_from_is_err_and c.from_residual.result c.from_residual.ensures.1 in
    rw (p.1, p.2) c.in_err-start_chart.ensures.over

pub returns-in_err-start_chart-clause-memory : goal.returns-in_err-start_chart-clause-memory
returns-in_err-start_chart-clause-memory g c =
    let p = err_from_is_err_and c.from_residual.result c.from_residual.ensures.1 in
    rw (p.1, p.2) c.in_err-start_chart.ensures.memory

-- one chart more was started
pub loop-c-preserved : goal.loop-c-preserved
loop-c-preserved g c =
    let x = g.G.Engine in
    let first = c.args.net.now in
    let net = net_shown x first in
    let inv = c.loop-c.invariant in
    let e = c.in_ok-start_chart.ensures in
    let same = shown_same x first c.loop-c.net inv.charts inv.routes in
    record {
      starting = start_more net (net_shown x c.loop-c.net) _ _ _ _ _ _ _ _ _ _ _ c.loop-c.c same inv.starting e.done;
      charts = e.charts ∙ inv.charts;
      routes = e.routes ∙ inv.routes;
      sound = e.sound;
      stages = e.stages;
      usable = e.failed;
    }

-- ---- the lines

pub lines-init : goal.lines-init
lines-init g c =
    let x = g.G.Engine in
    let first = c.args.net.now in
    let net = net_shown x first in
    let inv = c.loop-c.invariant in
    let all : c.loop-c.c ≡ length net.names = omega (arith, names_count x first) in
    let seats : length c.loop-c.net.seats.items ≡ length net.names =
    sym (names_count x c.loop-c.net)
    ∙ ap (λ n. length n.names) (shown_same x first c.loop-c.net inv.charts inv.routes) in
    record {
      driven = starts_put net _ _ _ _ _ _ _ _ _ c.requires.unused c.requires.empty inv.usable
          (starting_all net _ _ c.loop-c.c all inv.starting);
      charts = inv.charts;
      routes = inv.routes;
      sound = inv.sound;
      running = all_started x c.loop-c.net c.loop-c.c (omega (arith, all, seats)) inv.stages;
      others = λ other ne. refl;
      counts = λ other. refl;
    }

pub next_line-requires-clause-lines : goal.next_line-requires-clause-lines
next_line-requires-clause-lines g c = c.lines.invariant.driven.driven.reads.place.failed

pub next_line-requires-clause-usable : goal.next_line-requires-clause-usable
next_line-requires-clause-usable g c = c.lines.invariant.driven.usable

-- the next line can't be taken
pub returns-in_err-next_line-clause-ends : goal.returns-in_err-next_line-clause-ends
returns-in_err-next_line-clause-ends g c =
    let x = g.G.Engine in
    let net = net_shown x c.args.net.now in
    let one = gives_one x g.met.G.Engine.one_start g.met.G.Engine.one_reaction (charts_of x c.args.net.now)
    (routes_of c.args.net.now) in
    let p = err_from_is_err_and c.from_residual-in_err-next_line.result c.from_residual-in_err-next_line.ensures.1 in
    let n = c.in_err-next_line.ensures in
    rw (p.1, p.2) (next_over net _ _ _ _ _ _ _ _ _ _ _ _ _ _ _ _ one c.lines.invariant.driven n.next n.moves)

pub returns-in_err-next_line-clause-reads : goal.returns-in_err-next_line-clause-reads
returns-in_err-next_line-clause-reads g c =
    let p = err_from_is_err_and c.from_residual-in_err-next_line.result c.from_residual-in_err-next_line.ensures.1 in
    rw (p.1, p.2) (read_cause _ _ _ _ _ c.lines.invariant.counts c.in_err-next_line.ensures.reads)

pub returns-in_err-next_line-clause-memory : goal.returns-in_err-next_line-clause-memory
returns-in_err-next_line-clause-memory g c =
    let p = err_from_is_err_and c.from_residual-in_err-next_line.result c.from_residual-in_err-next_line.ensures.1 in
    rw (p.1, p.2) (λ _. never_memory _ _ refl)

pub returns-in_err-next_line-clause-failed : goal.returns-in_err-next_line-clause-failed
returns-in_err-next_line-clause-failed g c =
    let net = net_shown g.G.Engine c.args.net.now in
    let p = err_from_is_err_and c.from_residual-in_err-next_line.result c.from_residual-in_err-next_line.ensures.1 in
    rw (p.1, p.2) (next_failed (net_runs net) _ _ _ _ _ _ _ _ _ _ _ _ _ _ _ c.lines.invariant.driven
    c.in_err-next_line.ensures.moves ∙ sym (writes_same _))

pub returns-in_err-next_line-clause-charts : goal.returns-in_err-next_line-clause-charts
returns-in_err-next_line-clause-charts g c = c.lines.invariant.charts

pub returns-in_err-next_line-clause-routes : goal.returns-in_err-next_line-clause-routes
returns-in_err-next_line-clause-routes g c = c.lines.invariant.routes

pub returns-in_err-next_line-clause-others : goal.returns-in_err-next_line-clause-others
returns-in_err-next_line-clause-others g c =
    λ other ne. c.in_err-next_line.ensures.others other ne ∙ c.lines.invariant.others other ne

pub returns-in_err-next_line-clause-counts : goal.returns-in_err-next_line-clause-counts
returns-in_err-next_line-clause-counts g c =
    λ other. falls_after _ _ _ (c.lines.invariant.counts other) (c.in_err-next_line.ensures.counts other)

pub returns-in_err-next_line-clause-over : goal.returns-in_err-next_line-clause-over
returns-in_err-next_line-clause-over g c =
    let p = err_from_is_err_and c.from_residual-in_err-next_line.result c.from_residual-in_err-next_line.ensures.1 in
    rw (p.1, p.2) (λ is. absurd (never_memory _ _ refl is))

-- what a line needs
pub run_line-requires-clause-sound : goal.run_line-requires-clause-sound
run_line-requires-clause-sound g c = c.lines.invariant.sound

pub run_line-requires-clause-stages : goal.run_line-requires-clause-stages
run_line-requires-clause-stages g c = c.lines.invariant.running

pub run_line-requires-clause-few : goal.run_line-requires-clause-few
run_line-requires-clause-few g c = c.lines.invariant.driven.driven.limit

pub run_line-requires-clause-usable : goal.run_line-requires-clause-usable
run_line-requires-clause-usable g c =
    next_failed (net_runs (net_shown g.G.Engine c.args.net.now)) _ _ _ _ _ _ _ _ _ _ _ _ _ _ _
    c.lines.invariant.driven c.in_ok-next_line.ensures.moves

-- the run ends at a line
pub returns-in_err-last_step-clause-ends : goal.returns-in_err-last_step-clause-ends
returns-in_err-last_step-clause-ends g c =
    let x = g.G.Engine in
    let first = c.args.net.now in
    let net = net_shown x first in
    let one = gives_one x g.met.G.Engine.one_start g.met.G.Engine.one_reaction (charts_of x first) (routes_of first) in
    let p = err_from_is_err_and c.from_residual-in_err-last_step.result c.from_residual-in_err-last_step.ensures.1 in
    let inv = c.lines.invariant in
    let n = c.in_ok-next_line.ensures.next in
    let next = rw c.if-branch.true at n in
    let b = between (net_runs net) _ _ _ _ _ _ _ _ _ _ _ _ _ _ _ inv.driven next c.in_ok-next_line.ensures.moves in
    let e = c.in_err-last_step.ensures in
    let t = e.done in
    let taken = rw (c.line.ensures, c.number.ensures) at t in
    let same = shown_same x first c.lines.net inv.charts inv.routes in
    rw (p.1, p.2) (line_over net (net_shown x c.lines.net) _ _ _ _ _ _ _ _ _ _ _ _ _ _ _ _ _ _ same one b e.failed
    e.reads taken)

pub returns-in_err-last_step-clause-others : goal.returns-in_err-last_step-clause-others
returns-in_err-last_step-clause-others g c =
    let inv = c.lines.invariant in
    λ other ne. c.in_ok-next_line.ensures.others other ne ∙ inv.others other ne

pub returns-in_err-last_step-clause-reads : goal.returns-in_err-last_step-clause-reads
returns-in_err-last_step-clause-reads g c =
    let p = err_from_is_err_and c.from_residual-in_err-last_step.result c.from_residual-in_err-last_step.ensures.1 in
    let inv = c.lines.invariant in
    let stay = c.in_ok-next_line.ensures.reads.others refl in
    rw (p.1, p.2) (no_read _ _ _ _ c.in_err-last_step.ensures.reads (λ other. stay other ∙ inv.counts other))

pub returns-in_err-last_step-clause-failed : goal.returns-in_err-last_step-clause-failed
returns-in_err-last_step-clause-failed g c =
    let p = err_from_is_err_and c.from_residual-in_err-last_step.result c.from_residual-in_err-last_step.ensures.1 in
    rw (p.1, p.2) c.in_err-last_step.ensures.failed

pub returns-in_err-last_step-clause-charts : goal.returns-in_err-last_step-clause-charts
returns-in_err-last_step-clause-charts g c = c.in_err-last_step.ensures.charts ∙ c.lines.invariant.charts

pub returns-in_err-last_step-clause-routes : goal.returns-in_err-last_step-clause-routes
returns-in_err-last_step-clause-routes g c = c.in_err-last_step.ensures.routes ∙ c.lines.invariant.routes

pub returns-in_err-last_step-clause-counts : goal.returns-in_err-last_step-clause-counts
returns-in_err-last_step-clause-counts g c =
    λ other. falls_after _ _ _ (c.lines.invariant.counts other) (c.in_ok-next_line.ensures.counts other)

pub returns-in_err-last_step-clause-over : goal.returns-in_err-last_step-clause-over
returns-in_err-last_step-clause-over g c =
    let p = err_from_is_err_and c.from_residual-in_err-last_step.result c.from_residual-in_err-last_step.ensures.1 in
    rw (p.1, p.2) (λ is. c.in_err-last_step.ensures.over (same_memory _ _ refl _ refl is))

pub returns-in_err-last_step-clause-memory : goal.returns-in_err-last_step-clause-memory
returns-in_err-last_step-clause-memory g c =
    let p = err_from_is_err_and c.from_residual-in_err-last_step.result c.from_residual-in_err-last_step.ensures.1 in
    rw (p.1, p.2) (λ never is. c.in_err-last_step.ensures.memory never (same_memory _ _ refl _ refl is))

-- one line more
pub lines-preserved : goal.lines-preserved
lines-preserved g c =
    let x = g.G.Engine in
    let first = c.args.net.now in
    let net = net_shown x first in
    let inv = c.lines.invariant in
    let n = c.in_ok-next_line.ensures.next in
    let next = rw c.if-branch.true at n in
    let b = between (net_runs net) _ _ _ _ _ _ _ _ _ _ _ _ _ _ _ inv.driven next c.in_ok-next_line.ensures.moves in
    let e = c.in_ok-last_step.ensures in
    let t = e.done in
    let taken = rw (c.line.ensures, c.number.ensures) at t in
    let same = shown_same x first c.lines.net inv.charts inv.routes in
    let stay = c.in_ok-next_line.ensures.reads.others refl in
    record {
      driven = line_put net (net_shown x c.lines.net) _ _ _ _ _ _ _ _ _ _ _ _ _ _ _ _ _ _ same b e.failed taken;
      charts = e.charts ∙ inv.charts;
      routes = e.routes ∙ inv.routes;
      sound = e.sound;
      running = e.stages;
      others = λ other ne. c.in_ok-next_line.ensures.others other ne ∙ inv.others other ne;
      counts = λ other. stay other ∙ inv.counts other;
    }

-- no line is left
pub returns-clause-ends : goal.returns-clause-ends
returns-clause-ends g c =
    let x = g.G.Engine in
    let net = net_shown x c.args.net.now in
    let one = gives_one x g.met.G.Engine.one_start g.met.G.Engine.one_reaction (charts_of x c.args.net.now)
    (routes_of c.args.net.now) in
    let n = c.in_ok-next_line.ensures.next in
    let next = rw c.if-branch.false at n in
    end_stops (net_runs net) (NetDrives net)
    (driver_laws net one) _ _ _ _ _ _ _ _ _ _ _ _ _ _ _ c.lines.invariant.driven next
    c.in_ok-next_line.ensures.moves

pub returns-clause-failed : goal.returns-clause-failed
returns-clause-failed g c =
    next_failed (net_runs (net_shown g.G.Engine c.args.net.now)) _ _ _ _ _ _ _ _ _ _ _ _ _ _ _
    c.lines.invariant.driven c.in_ok-next_line.ensures.moves

pub returns-clause-charts : goal.returns-clause-charts
returns-clause-charts g c = c.lines.invariant.charts

pub returns-clause-routes : goal.returns-clause-routes
returns-clause-routes g c = c.lines.invariant.routes

pub returns-clause-others : goal.returns-clause-others
returns-clause-others g c =
    λ other ne. c.in_ok-next_line.ensures.others other ne ∙ c.lines.invariant.others other ne

pub returns-clause-counts : goal.returns-clause-counts
returns-clause-counts g c =
    λ other. falls_after _ _ _ (c.lines.invariant.counts other) (c.in_ok-next_line.ensures.counts other)

pub returns-clause-reads : goal.returns-clause-reads
returns-clause-reads g c =
    let stay = c.in_ok-next_line.ensures.reads.others refl in
    no_read _ _ _ false refl (λ other. stay other ∙ c.lines.invariant.counts other)

pub returns-clause-over : goal.returns-clause-over
returns-clause-over g c = λ is. absurd (cc)

pub returns-clause-memory : goal.returns-clause-memory
returns-clause-memory g c = λ _ is. absurd (cc)
