use Rattle.std.proofs.Common.{◌≡◌, ℕ, ◌+◌, nat_le, false, List, Ok, Err, refl, sym, append-nil, arith}
use Rattle.std.proofs.lemmas.Bool.Decides.{nat_tests}
use Rattle.event_file.specs.declared.limits.TheConstants.{FILE_EVENT_LIMIT}
use Rattle.chart_net.specs.NetParts.{StandsFor, all_running, net_shown}
use Rattle.chart_net.specs.Schedules.{step_of_line}
use Rattle.trace_text.specs.Pieces.{Puts}
use Rattle.chart_net.proofs.MoveLemmas.{line_done}
use Rattle.chart_net.proofs.net.Net.run_line.Goals as goal

pub returns-in-Ok-None-clause-stages : goal.returns-in-Ok-None-clause-stages
returns-in-Ok-None-clause-stages g c = c.read_step.ensures.kept.stages all_running c.args.p c.requires.stages

pub do_step-requires-clause-stages : goal.do_step-requires-clause-stages
do_step-requires-clause-stages g c = c.read_step.ensures.kept.stages all_running c.args.p c.requires.stages

pub returns-in-Ok-None-clause-done : goal.returns-in-Ok-None-clause-done
returns-in-Ok-None-clause-done g c = λ now stands.
    let read = rw c.in-Ok-None.field-0-is at c.in-Ok-None.ensures.read in
    rw read (refl, c.read_step.ensures.kept.stands now stands, λ w f all h. rw append-nil h)

-- the step was done
pub returns-in-Ok-clause-done : goal.returns-in-Ok-clause-done
returns-in-Ok-clause-done g c = λ now stands.
    let members = g.G.Engine in
    let old = c.args.self.now in
    let mid = c.read_step.new.self in
    let kept = c.read_step.ensures.kept in
    let read = rw c.in-Ok-Some.field-0-is at c.in-Ok-Some.ensures.read in
    let few : nat_le FILE_EVENT_LIMIT c.args.p ≡ false = let h = c.if-p-ge-FILE_EVENT_LIMIT.false in grind (arith, nat_tests) in
    let puts = λ (text : List ℕ). Puts (g.O.Sink.wrote c.args.out.now) (g.O.Sink.wrote c.do_step.new.out)
    (g.O.Sink.faults c.args.out.now)
    (g.O.Sink.faults c.do_step.new.out) c.args.pieces.now c.do_step.new.pieces text in
    line_done members old mid (StandsFor members c.do_step.new.self) now c.args.number c.args.p
    (step_of_line (net_shown members old) c.args.line.now)
    read.0 puts c.do_step.new.pieces.failed c.do_step.result (Ok (c.args.p + 1)) read.1 few kept.charts kept.routes
    (c.do_step.ensures.done read.0 read.2 now (kept.stands now stands)) (sym c.in-Ok.is) refl

-- the step ended the run
pub returns-in-Err-do_step-clause-done : goal.returns-in-Err-do_step-clause-done
returns-in-Err-do_step-clause-done g c = λ now stands.
    let members = g.G.Engine in
    let old = c.args.self.now in
    let mid = c.read_step.new.self in
    let kept = c.read_step.ensures.kept in
    let read = rw c.in-Ok-Some.field-0-is at c.in-Ok-Some.ensures.read in
    let few : nat_le FILE_EVENT_LIMIT c.args.p ≡ false = let h = c.if-p-ge-FILE_EVENT_LIMIT.false in grind (arith, nat_tests) in
    let puts = λ (text : List ℕ). Puts (g.O.Sink.wrote c.args.out.now) (g.O.Sink.wrote c.do_step.new.out)
    (g.O.Sink.faults c.args.out.now)
    (g.O.Sink.faults c.do_step.new.out) c.args.pieces.now c.do_step.new.pieces text in
    line_done members old mid (StandsFor members c.do_step.new.self) now c.args.number c.args.p
    (step_of_line (net_shown members old) c.args.line.now)
    read.0 puts c.do_step.new.pieces.failed c.do_step.result (Err c.in-Err-do_step.end) read.1 few kept.charts
    kept.routes
    (c.do_step.ensures.done read.0 read.2 now (kept.stands now stands)) (sym c.in-Err-do_step.is) tt
