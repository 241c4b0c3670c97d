use Rattle.std.proofs.Common.{Ok, refl, sym, ap, ◌∙◌}
use Rattle.std.proofs.lemmas.Result.{err_from_is_err_and}
use Rattle.trace_text.specs.Pieces.{Held, Puts}
use Rattle.step_driver.specs.Driving.{Drives, engine_runs}
use Rattle.step_driver.proofs.Buffered.{between, end_stops, next_failed}
use Rattle.step_driver.proofs.EngineMoves.{start_over, start_put, next_over, line_put, line_over}
use Rattle.step_driver.proofs.EngineRuns.{driver_laws, falls_after, farther, no_memory, no_read_end, no_read_fault, none_falls}
use Rattle.step_driver.proofs.EngineRuns.{read_cause, never_memory, writes_same}
use Rattle.step_driver.proofs.LeavingLemmas.{start_leaves, end_leaves, next_leaves, line_leaves}
use Rattle.step_driver.proofs.driver.run_lines.Goals as goal

pub run_start-requires-clause-usable : goal.run_start-requires-clause-usable
run_start-requires-clause-usable g c = ap (λ (h : Held). h.failed) c.requires.empty

-- the start isn't taken, or its line can't be written
pub returns-in_err-run_start-clause-ends : goal.returns-in_err-run_start-clause-ends
returns-in_err-run_start-clause-ends g c =
    let x = g.G.Engine in
    let k = x.program c.args.engine.now in
    let p = err_from_is_err_and c.from_residual.result c.from_residual.ensures.1 in
    let e = c.in_err-run_start.ensures in
    rw (p.1, p.2) (start_over (x.Starts k) (x.Reacts k) (x.tree k) (x.declared k) _ _ _ _ _ _ _ _ _
    (g.met.G.Engine.one_start k)
    c.requires.empty e.failed e.reads e.done)

pub returns-in_err-run_start-clause-failed : goal.returns-in_err-run_start-clause-failed
returns-in_err-run_start-clause-failed g c =
    let p = err_from_is_err_and c.from_residual.result c.from_residual.ensures.1 in
    rw (p.1, p.2) c.in_err-run_start.ensures.failed

pub returns-in_err-run_start-clause-program : goal.returns-in_err-run_start-clause-program
returns-in_err-run_start-clause-program g c = c.in_err-run_start.ensures.program

pub returns-in_err-run_start-clause-others : goal.returns-in_err-run_start-clause-others
returns-in_err-run_start-clause-others g c = λ other ne. refl

pub returns-in_err-run_start-clause-counts : goal.returns-in_err-run_start-clause-counts
returns-in_err-run_start-clause-counts g c = none_falls _

pub returns-in_err-run_start-clause-reads : goal.returns-in_err-run_start-clause-reads
returns-in_err-run_start-clause-reads g c =
    let p = err_from_is_err_and c.from_residual.result c.from_residual.ensures.1 in
    rw (p.1, p.2) (no_read_end _ _ _ _ c.in_err-run_start.ensures.reads (λ other. refl))

pub returns-in_err-run_start-clause-memory : goal.returns-in_err-run_start-clause-memory
returns-in_err-run_start-clause-memory g c =
    let p = err_from_is_err_and c.from_residual.result c.from_residual.ensures.1 in
    rw (p.1, p.2) c.in_err-run_start.ensures.memory

pub lines-init : goal.lines-init
lines-init g c =
    let x = g.G.Engine in
    let k = x.program c.args.engine.now in
    record {
      driven = start_put (x.Starts k) (x.Reacts k) (x.tree k) (x.declared k) _ _ _ _ _ _ _ _ _ c.requires.unused
          c.requires.empty c.in_ok-run_start.ensures.failed c.in_ok-run_start.ensures.done;
      program = c.in_ok-run_start.ensures.program;
      running = c.in_ok-run_start.ensures.stage;
      vals = c.requires.vals;
      others = λ other ne. refl;
      counts = λ other. refl;
    }

pub next_line-requires-clause-lines : goal.next_line-requires-clause-lines
next_line-requires-clause-lines g c = c.lines.invariant.driven.driven.reads.place.failed

pub next_line-requires-clause-usable : goal.next_line-requires-clause-usable
next_line-requires-clause-usable g c = c.lines.invariant.driven.usable

-- the next line can't be taken
pub returns-in_err-next_line-clause-ends : goal.returns-in_err-next_line-clause-ends
returns-in_err-next_line-clause-ends g c =
    let x = g.G.Engine in
    let k = x.program c.args.engine.now in
    let p = err_from_is_err_and c.from_residual-in_err-next_line.result c.from_residual-in_err-next_line.ensures.1 in
    let n = c.in_err-next_line.ensures in
    rw (p.1, p.2) (next_over (x.Starts k) (x.Reacts k) (x.tree k) (x.declared k) _ _ _ _ _ _ _ _ _ _ _ _ _ _ _ _
    (g.met.G.Engine.one_start k) c.lines.invariant.driven n.next n.moves)

pub returns-in_err-next_line-clause-reads : goal.returns-in_err-next_line-clause-reads
returns-in_err-next_line-clause-reads g c =
    let p = err_from_is_err_and c.from_residual-in_err-next_line.result c.from_residual-in_err-next_line.ensures.1 in
    rw (p.1, p.2) (read_cause _ _ _ _ _ c.lines.invariant.counts c.in_err-next_line.ensures.reads)

pub returns-in_err-next_line-clause-memory : goal.returns-in_err-next_line-clause-memory
returns-in_err-next_line-clause-memory g c =
    let p = err_from_is_err_and c.from_residual-in_err-next_line.result c.from_residual-in_err-next_line.ensures.1 in
    rw (p.1, p.2) (λ _. never_memory _ _ refl)

pub returns-in_err-next_line-clause-failed : goal.returns-in_err-next_line-clause-failed
returns-in_err-next_line-clause-failed g c =
    let x = g.G.Engine in
    let k = x.program c.args.engine.now in
    let p = err_from_is_err_and c.from_residual-in_err-next_line.result c.from_residual-in_err-next_line.ensures.1 in
    rw (p.1, p.2) (next_failed (engine_runs (x.Starts k) (x.Reacts k) (x.tree k)
    (x.declared k)) _ _ _ _ _ _ _ _ _ _ _ _ _ _ _
    c.lines.invariant.driven c.in_err-next_line.ensures.moves ∙ sym (writes_same _))

pub returns-in_err-next_line-clause-program : goal.returns-in_err-next_line-clause-program
returns-in_err-next_line-clause-program g c = c.lines.invariant.program

pub returns-in_err-next_line-clause-others : goal.returns-in_err-next_line-clause-others
returns-in_err-next_line-clause-others g c =
    λ other ne. c.in_err-next_line.ensures.others other ne ∙ c.lines.invariant.others other ne

pub returns-in_err-next_line-clause-counts : goal.returns-in_err-next_line-clause-counts
returns-in_err-next_line-clause-counts g c =
    λ other. falls_after _ _ _ (c.lines.invariant.counts other) (c.in_err-next_line.ensures.counts other)

-- what a line needs
pub run_line-requires-clause-running : goal.run_line-requires-clause-running
run_line-requires-clause-running g c = c.lines.invariant.running

pub run_line-requires-clause-few : goal.run_line-requires-clause-few
run_line-requires-clause-few g c = rw c.lines.invariant.program c.requires.few

pub run_line-requires-clause-few_data : goal.run_line-requires-clause-few_data
run_line-requires-clause-few_data g c = rw c.lines.invariant.program c.requires.few_data

pub run_line-requires-clause-vals : goal.run_line-requires-clause-vals
run_line-requires-clause-vals g c = rw c.lines.invariant.program c.lines.invariant.vals

pub run_line-requires-clause-index : goal.run_line-requires-clause-index
run_line-requires-clause-index g c = c.lines.invariant.driven.driven.limit

pub run_line-requires-clause-usable : goal.run_line-requires-clause-usable
run_line-requires-clause-usable g c =
    let x = g.G.Engine in
    let k = x.program c.args.engine.now in
    next_failed (engine_runs (x.Starts k) (x.Reacts k) (x.tree k) (x.declared k)) _ _ _ _ _ _ _ _ _ _ _ _ _ _ _
    c.lines.invariant.driven c.in_ok-next_line.ensures.moves

-- the run ends at a line
pub returns-in_err-index-clause-ends : goal.returns-in_err-index-clause-ends
returns-in_err-index-clause-ends g c =
    let x = g.G.Engine in
    let k = x.program c.args.engine.now in
    let p = err_from_is_err_and c.from_residual-in_err-index.result c.from_residual-in_err-index.ensures.1 in
    let inv = c.lines.invariant in
    let n = c.in_ok-next_line.ensures.next in
    let next = rw c.if-branch.true at n in
    let b = between (engine_runs (x.Starts k) (x.Reacts k) (x.tree k)
    (x.declared k)) _ _ _ _ _ _ _ _ _ _ _ _ _ _ _ inv.driven
    next c.in_ok-next_line.ensures.moves in
    let e = c.in_err-index.ensures in
    let t = e.taken in
    let taken = rw (inv.program, c.line.ensures, c.number.ensures) at t in
    rw (p.1, p.2) (line_over (x.Starts k) (x.Reacts k) (x.tree k) (x.declared k) _ _ _ _ _ _ _ _ _ _ _ _ _ _ _ _ _
    (g.met.G.Engine.one_start k) b e.failed e.reads taken)

pub returns-in_err-index-clause-failed : goal.returns-in_err-index-clause-failed
returns-in_err-index-clause-failed g c =
    let p = err_from_is_err_and c.from_residual-in_err-index.result c.from_residual-in_err-index.ensures.1 in
    rw (p.1, p.2) c.in_err-index.ensures.failed

pub returns-in_err-index-clause-program : goal.returns-in_err-index-clause-program
returns-in_err-index-clause-program g c = c.in_err-index.ensures.program ∙ c.lines.invariant.program

pub returns-in_err-index-clause-others : goal.returns-in_err-index-clause-others
returns-in_err-index-clause-others g c =
    λ other ne. c.in_ok-next_line.ensures.others other ne ∙ c.lines.invariant.others other ne

pub returns-in_err-index-clause-counts : goal.returns-in_err-index-clause-counts
returns-in_err-index-clause-counts g c =
    λ other. falls_after _ _ _ (c.lines.invariant.counts other) (c.in_ok-next_line.ensures.counts other)

pub returns-in_err-index-clause-reads : goal.returns-in_err-index-clause-reads
returns-in_err-index-clause-reads g c =
    let p = err_from_is_err_and c.from_residual-in_err-index.result c.from_residual-in_err-index.ensures.1 in
    let stay = c.in_ok-next_line.ensures.reads.others refl in
    rw (p.1, p.2) (no_read_end _ _ _ _ c.in_err-index.ensures.reads
    (λ other. stay other ∙ c.lines.invariant.counts other))

pub returns-in_err-index-clause-memory : goal.returns-in_err-index-clause-memory
returns-in_err-index-clause-memory g c =
    let p = err_from_is_err_and c.from_residual-in_err-index.result c.from_residual-in_err-index.ensures.1 in
    rw (p.1, p.2) (λ never. no_memory _ _ refl (c.in_err-index.ensures.memory never) _ refl)

-- one line more
pub lines-smaller : goal.lines-smaller
lines-smaller g c =
    let n = c.in_ok-next_line.ensures.next in
    let next = rw c.if-branch.true at n in
    farther _ _ _ _ next

pub lines-preserved : goal.lines-preserved
lines-preserved g c =
    let x = g.G.Engine in
    let k = x.program c.args.engine.now in
    let inv = c.lines.invariant in
    let n = c.in_ok-next_line.ensures.next in
    let next = rw c.if-branch.true at n in
    let b = between (engine_runs (x.Starts k) (x.Reacts k) (x.tree k)
    (x.declared k)) _ _ _ _ _ _ _ _ _ _ _ _ _ _ _ inv.driven
    next c.in_ok-next_line.ensures.moves in
    let t = c.in_ok-index.ensures.taken in
    let taken = rw (inv.program, c.line.ensures, c.number.ensures) at t in
    let stay = c.in_ok-next_line.ensures.reads.others refl in
    record {
      driven = line_put (x.Starts k) (x.Reacts k) (x.tree k) (x.declared k) _ _ _ _ _ _ _ _ _ _ _ _ _ _ _ _ _ b
          c.in_ok-index.ensures.failed taken;
      program = c.in_ok-index.ensures.program ∙ inv.program;
      running = c.in_ok-index.ensures.stage;
      vals = let v = c.in_ok-index.ensures.vals in rw inv.program at v;
      others = λ other ne. c.in_ok-next_line.ensures.others other ne ∙ inv.others other ne;
      counts = λ other. stay other ∙ inv.counts other;
    }

-- no line is left
pub returns-clause-ends : goal.returns-clause-ends
returns-clause-ends g c =
    let x = g.G.Engine in
    let k = x.program c.args.engine.now in
    let n = c.in_ok-next_line.ensures.next in
    let next = rw c.if-branch.false at n in
    end_stops (engine_runs (x.Starts k) (x.Reacts k) (x.tree k) (x.declared k))
    (Drives (x.Starts k) (x.Reacts k) (x.tree k) (x.declared k))
    (driver_laws (x.Starts k) (x.Reacts k) (x.tree k) (x.declared k)
    (g.met.G.Engine.one_start k)) _ _ _ _ _ _ _ _ _ _ _ _ _ _ _
    c.lines.invariant.driven next c.in_ok-next_line.ensures.moves

-- ---- where the engine is

pub returns-in_err-run_start-clause-leaves : goal.returns-in_err-run_start-clause-leaves
returns-in_err-run_start-clause-leaves g c =
    let p = err_from_is_err_and c.from_residual.result c.from_residual.ensures.1 in
    let program = g.G.Engine.program c.args.engine.now in
    rw (p.1, p.2) (start_leaves (g.G.Engine.Starts program) (g.G.Engine.Reacts program) (g.G.Engine.tree program)
    (g.G.Engine.declared program) _ g.G.Engine.never_wants_memory _
    (Puts _ _ _ _ _ _) _ c.in_err-run_start.ensures.done)

pub returns-in_err-next_line-clause-leaves : goal.returns-in_err-next_line-clause-leaves
returns-in_err-next_line-clause-leaves g c =
    let x = g.G.Engine in
    let k = x.program c.args.engine.now in
    let p = err_from_is_err_and c.from_residual-in_err-next_line.result c.from_residual-in_err-next_line.ensures.1 in
    rw (p.1, p.2) (next_leaves (x.Starts k) (x.Reacts k) (x.tree k) (x.declared k) _ _ _ _ _ _ _ _ _ _
    c.lines.invariant.driven.driven c.in_err-next_line.ensures.next)

pub returns-in_err-index-clause-leaves : goal.returns-in_err-index-clause-leaves
returns-in_err-index-clause-leaves g c =
    let x = g.G.Engine in
    let k = x.program c.args.engine.now in
    let p = err_from_is_err_and c.from_residual-in_err-index.result c.from_residual-in_err-index.ensures.1 in
    let inv = c.lines.invariant in
    let n = c.in_ok-next_line.ensures.next in
    let next = rw c.if-branch.true at n in
    let t = c.in_err-index.ensures.taken in
    let taken = rw (inv.program, c.line.ensures, c.number.ensures) at t in
    rw (p.1, p.2) (line_leaves (x.Starts k) (x.Reacts k) (x.tree k)
    (x.declared k) _ _ _ _ _ _ _ _ _ _ _ _ inv.driven.driven next
    taken)

pub returns-clause-leaves : goal.returns-clause-leaves
returns-clause-leaves g c =
    let x = g.G.Engine in
    let k = x.program c.args.engine.now in
    let n = c.in_ok-next_line.ensures.next in
    let next = rw c.if-branch.false at n in
    end_leaves (x.Starts k) (x.Reacts k) (x.tree k) (x.declared k) _ _ _ g.G.Engine.never_wants_memory _ _ _ _ _
    c.lines.invariant.driven.driven next

-- ---- what else holds where no line is left

pub returns-clause-failed : goal.returns-clause-failed
returns-clause-failed g c =
    let x = g.G.Engine in
    let k = x.program c.args.engine.now in
    next_failed (engine_runs (x.Starts k) (x.Reacts k) (x.tree k) (x.declared k)) _ _ _ _ _ _ _ _ _ _ _ _ _ _ _
    c.lines.invariant.driven c.in_ok-next_line.ensures.moves

pub returns-clause-program : goal.returns-clause-program
returns-clause-program g c = c.lines.invariant.program

pub returns-clause-others : goal.returns-clause-others
returns-clause-others g c =
    λ other ne. c.in_ok-next_line.ensures.others other ne ∙ c.lines.invariant.others other ne

pub returns-clause-counts : goal.returns-clause-counts
returns-clause-counts g c =
    λ other. falls_after _ _ _ (c.lines.invariant.counts other) (c.in_ok-next_line.ensures.counts other)

pub returns-clause-reads : goal.returns-clause-reads
returns-clause-reads g c =
    let stay = c.in_ok-next_line.ensures.reads.others refl in
    no_read_fault _ _ _ (Ok tt) refl (λ other. stay other ∙ c.lines.invariant.counts other)

pub returns-clause-memory : goal.returns-clause-memory
returns-clause-memory g c = λ _ is. absurd (cc)
