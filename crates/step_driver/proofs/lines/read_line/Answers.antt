use Rattle.trace_text.proofs.PieceLemmas.{kept_now}
use Rattle.step_driver.proofs.Buffered.{flush_done}
use Rattle.step_driver.proofs.lines.read_line.Goals as goal

-- what is kept was written, whatever the next line is
pub returns-in-Ok-clause-flushes : goal.returns-in-Ok-clause-flushes
returns-in-Ok-clause-flushes g c =
    let e = c.finish.ensures.written in
    let k = c.finish.ensures.kept in
    let written = rw c.in-Ok.is at e in
    let none = rw c.in-Ok.is at k in
    rw c.found_or_none.ensures (flush_done _ _ _ _ _ _ _ _ c.requires.usable written none)

-- it can't be written
pub returns-in-Err-clause-flushes : goal.returns-in-Err-clause-flushes
returns-in-Err-clause-flushes g c =
    let held = c.args.pieces.now in
    let e = c.finish.ensures.written _ _ held.bytes (kept_now _ _ held c.requires.usable) in
    let k = c.finish.ensures.failed in
    let cut = rw c.in-Err.is at e in
    let failed = rw c.in-Err.is at k in
    (cut, failed)
