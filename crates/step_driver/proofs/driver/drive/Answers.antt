use Rattle.std.proofs.Common.{◌≡◌, false, Err, refl, sym, ◌∙◌}
use Rattle.trace_text.proofs.PieceLemmas.{kept_now}
use Rattle.step_driver.specs.Causes.{is_write}
use Rattle.step_driver.specs.declared.driver.DriveEnd.TheVariants as ends
use Rattle.step_driver.specs.Driving.{Drives, engine_runs}
use Rattle.step_driver.proofs.Buffered.{finished, not_finished}
use Rattle.step_driver.proofs.EngineRuns.{driver_laws, no_read_fault, no_write_fault, write_fault}
use Rattle.step_driver.proofs.LeavingLemmas.{cut_leaves}
use Rattle.step_driver.proofs.driver.drive.Goals as goal

-- what is kept at the end was written
pub returns-in-Ok : goal.returns-in-Ok
returns-in-Ok g c =
    let lines = c.run_lines-end in
    let held = lines.new.pieces in
    let usable : held.failed ≡ false = sym c.has_failed.ensures ∙ c.if-has_failed.false in
    let whole : is_write lines.result ≡ false = sym lines.ensures.failed ∙ usable in
    let s = lines.ensures.ends in
    let stopped = rw whole at s in
    let x = g.G.Engine in
    let k = x.program c.args.engine.now in
    let passed = c.in-Ok.ensures.written (g.O.Sink.wrote lines.new.out) (g.O.Sink.faults lines.new.out) held.bytes
    (kept_now _ _ held usable) in
    record {
      drives = finished (engine_runs (x.Starts k) (x.Reacts k) (x.tree k) (x.declared k))
          (Drives (x.Starts k) (x.Reacts k) (x.tree k) (x.declared k))
          (driver_laws (x.Starts k) (x.Reacts k) (x.tree k) (x.declared k)
          (g.met.G.Engine.one_start k)) _ _ _ _ _ _ _ _ held.bytes _
          lines.result stopped passed;
      leaves = lines.ensures.leaves;
      program = lines.ensures.program;
      others = lines.ensures.others;
      counts = lines.ensures.counts;
      reads = lines.ensures.reads;
      writes = no_write_fault _ _ _ whole (passed.count ∙ stopped.count);
      memory = lines.ensures.memory;
    }

-- what is kept at the end can't be written
pub returns-in-Err : goal.returns-in-Err
returns-in-Err g c =
    let lines = c.run_lines-end in
    let held = lines.new.pieces in
    let usable : held.failed ≡ false = sym c.has_failed.ensures ∙ c.if-has_failed.false in
    let whole : is_write lines.result ≡ false = sym lines.ensures.failed ∙ usable in
    let s = lines.ensures.ends in
    let stopped = rw whole at s in
    let x = g.G.Engine in
    let p = x.program c.args.engine.now in
    let k = not_finished (engine_runs (x.Starts p) (x.Reacts p) (x.tree p) (x.declared p))
    (Drives (x.Starts p) (x.Reacts p) (x.tree p) (x.declared p))
    (driver_laws (x.Starts p) (x.Reacts p) (x.tree p) (x.declared p)
    (g.met.G.Engine.one_start p)) _ _ _ _ _ _ _ _ held.bytes
    lines.result whole stopped
    (c.in-Err.ensures.written _ _ held.bytes (kept_now _ _ held usable)) in
    record {
      drives = k.0;
      leaves = cut_leaves _ _ _ _ _ _ _ lines.result k.1 lines.ensures.memory lines.ensures.leaves;
      program = lines.ensures.program;
      others = lines.ensures.others;
      counts = lines.ensures.counts;
      reads = no_read_fault _ _ _ (Err ends.Write) refl (lines.ensures.reads.others k.1);
      writes = write_fault _ _ k.2;
      memory = λ _ is. absurd (cc);
    }
