use Rattle.std.proofs.Common.{◌++◌, sym, codes, decimal, append_assoc}
use Rattle.std.proofs.lemmas.Result.{on_ok_weaker, on_err_weaker}
use Rattle.commands.specs.ErrorLines.{kind_text}
use Rattle.flow_program.specs.declared.ending.Ending.TheVariants as endings
use Rattle.flow_program.specs.Ending.{event_fault_text, line_of, named_place_text}
use Rattle.commands.proofs.FrontLemmas.{front_first, front_after, front_as, written_after, written_as, at_exit}
use Rattle.flow_program.proofs.report.report.Goals as goal

-- ---- a chart of a net that is refused

-- the place isn't written
pub returns-in_err-write_named_place-in-NetChart-clause-failed :
    goal.returns-in_err-write_named_place-in-NetChart-clause-failed
returns-in_err-write_named_place-in-NetChart-clause-failed g c =
    let place = named_place_text c.name.result.now c.in-NetChart.refusal.at in
    let kind = kind_text c.in-NetChart.refusal.kind in
    rw (c.in-NetChart.is, ← c.name.ensures)
    (at_exit c.from_residual.result
    (front_first _ _ (place ++ kind) (codes "\n")
    (front_first _ _ place kind c.in_err-write_named_place-in-NetChart.ensures.failed)))

-- the kind isn't written
pub returns-in_err-write_kind-in-NetChart-clause-failed : goal.returns-in_err-write_kind-in-NetChart-clause-failed
returns-in_err-write_kind-in-NetChart-clause-failed g c =
    let place = named_place_text c.name.result.now c.in-NetChart.refusal.at in
    let kind = kind_text c.in-NetChart.refusal.kind in
    rw (c.in-NetChart.is, ← c.name.ensures)
    (at_exit c.from_residual-in_err-write_kind-in-NetChart.result
    (front_first _ _ (place ++ kind) (codes "\n")
    (front_after _ _ _ place kind c.in_ok-write_named_place-in-NetChart.ensures.ok
    c.in_err-write_kind-in-NetChart.ensures.failed)))

-- the end of the line isn't written
pub returns-in_ok-write_kind-in-NetChart-clause-failed : goal.returns-in_ok-write_kind-in-NetChart-clause-failed
returns-in_ok-write_kind-in-NetChart-clause-failed g c =
    let place = named_place_text c.name.result.now c.in-NetChart.refusal.at in
    let kind = kind_text c.in-NetChart.refusal.kind in
    rw (c.in-NetChart.is, ← c.name.ensures)
    (on_err_weaker c.write_all.result
    (front_after _ _ _ (place ++ kind) (codes "\n")
    (written_after _ _ _ place kind c.in_ok-write_named_place-in-NetChart.ensures.ok
    c.in_ok-write_kind-in-NetChart.ensures.ok))
    c.write_all.ensures.failed)

-- ---- an event line that is refused

-- the head isn't written
pub returns-in_err-write_head-in-Line-clause-failed : goal.returns-in_err-write_head-in-Line-clause-failed
returns-in_err-write_head-in-Line-clause-failed g c =
    let head = codes "event " ++ decimal c.in-Line.number ++ codes ": " in
    let fault = event_fault_text c.in-Line.fault in
    rw c.in-Line.is
    (at_exit c.from_residual-in_err-write_head-in-Line.result
    (front_first _ _ (head ++ fault) (codes "\n")
    (front_first _ _ head fault c.in_err-write_head-in-Line.ensures.failed)))

-- the fault isn't written
pub returns-in_err-write_event_fault-in-Line-clause-failed :
    goal.returns-in_err-write_event_fault-in-Line-clause-failed
returns-in_err-write_event_fault-in-Line-clause-failed g c =
    let head = codes "event " ++ decimal c.in-Line.number ++ codes ": " in
    let fault = event_fault_text c.in-Line.fault in
    rw c.in-Line.is
    (at_exit c.from_residual-in_err-write_event_fault-in-Line.result
    (front_first _ _ (head ++ fault) (codes "\n")
    (front_after _ _ _ head fault c.in_ok-write_head-in-Line.ensures.ok
    c.in_err-write_event_fault-in-Line.ensures.failed)))

-- the end of the line isn't written
pub returns-in_ok-write_event_fault-in-Line-clause-failed : goal.returns-in_ok-write_event_fault-in-Line-clause-failed
returns-in_ok-write_event_fault-in-Line-clause-failed g c =
    let head = codes "event " ++ decimal c.in-Line.number ++ codes ": " in
    let fault = event_fault_text c.in-Line.fault in
    rw c.in-Line.is
    (on_err_weaker c.write_all-in-Line.result
    (front_after _ _ _ (head ++ fault) (codes "\n")
    (written_after _ _ _ head fault c.in_ok-write_head-in-Line.ensures.ok c.in_ok-write_event_fault-in-Line.ensures.ok))
    c.write_all-in-Line.ensures.failed)

-- ---- a fault of a run

-- the head isn't written
pub returns-in_err-write_head-in-Fault-clause-failed : goal.returns-in_err-write_head-in-Fault-clause-failed
returns-in_err-write_head-in-Fault-clause-failed g c =
    let head = codes "run " ++ decimal c.in-Fault.index ++ codes ": " in
    let word = c.in-Fault.word in
    rw c.in-Fault.is
    (at_exit c.from_residual-in_err-write_head-in-Fault.result
    (front_first _ _ (head ++ word) (codes "\n")
    (front_first _ _ head word c.in_err-write_head-in-Fault.ensures.failed)))

-- the word isn't written, or the end of the line
pub returns-in_ok-write_head-in-Fault-clause-failed : goal.returns-in_ok-write_head-in-Fault-clause-failed
returns-in_ok-write_head-in-Fault-clause-failed g c =
    let head = codes "run " ++ decimal c.in-Fault.index ++ codes ": " in
    let word = c.text-in-Fault.result.now in
    rw (c.in-Fault.is, ← c.text-in-Fault.ensures)
    (on_err_weaker c.write_line-in-Fault.result
    (λ front.
    front_as _ _ (head ++ (word ++ codes "\n")) _ (sym (append_assoc head word (codes "\n")))
    (front_after _ _ _ head (word ++ codes "\n") c.in_ok-write_head-in-Fault.ensures.ok front))
    c.write_line-in-Fault.ensures.failed)

-- ---- lines of one piece

-- the line of `Usage`
pub returns-in-Usage-clause-ok : goal.returns-in-Usage-clause-ok
returns-in-Usage-clause-ok g c =
    rw c.in-Usage.is
    (on_ok_weaker c.write_all-in-Usage.result
    (written_as _ _ c.as_bytes.result.now (line_of endings.Usage) c.as_bytes.ensures.value)
    c.write_all-in-Usage.ensures.ok)

-- the line of `Usage`, where a write fails
pub returns-in-Usage-clause-failed : goal.returns-in-Usage-clause-failed
returns-in-Usage-clause-failed g c =
    rw c.in-Usage.is
    (on_err_weaker c.write_all-in-Usage.result
    (front_as _ _ c.as_bytes.result.now (line_of endings.Usage) c.as_bytes.ensures.value)
    c.write_all-in-Usage.ensures.failed)

-- the line of `TooManyLines`
pub returns-in-TooManyLines-clause-ok : goal.returns-in-TooManyLines-clause-ok
returns-in-TooManyLines-clause-ok g c = rw c.in-TooManyLines.is c.write_all-in-TooManyLines.ensures.ok

-- the line of `TooManyLines`, where a write fails
pub returns-in-TooManyLines-clause-failed : goal.returns-in-TooManyLines-clause-failed
returns-in-TooManyLines-clause-failed g c = rw c.in-TooManyLines.is c.write_all-in-TooManyLines.ensures.failed

-- the line of `FileTooLong`
pub returns-in-FileTooLong-clause-ok : goal.returns-in-FileTooLong-clause-ok
returns-in-FileTooLong-clause-ok g c = rw c.in-FileTooLong.is c.write_all-in-FileTooLong.ensures.ok

-- the line of `FileTooLong`, where a write fails
pub returns-in-FileTooLong-clause-failed : goal.returns-in-FileTooLong-clause-failed
returns-in-FileTooLong-clause-failed g c = rw c.in-FileTooLong.is c.write_all-in-FileTooLong.ensures.failed

-- the line of `Read`
pub returns-in-Read-clause-ok : goal.returns-in-Read-clause-ok
returns-in-Read-clause-ok g c = rw c.in-Read.is c.write_all-in-Read.ensures.ok

-- the line of `Read`, where a write fails
pub returns-in-Read-clause-failed : goal.returns-in-Read-clause-failed
returns-in-Read-clause-failed g c = rw c.in-Read.is c.write_all-in-Read.ensures.failed

-- the line of `Write`
pub returns-in-Write-clause-ok : goal.returns-in-Write-clause-ok
returns-in-Write-clause-ok g c = rw c.in-Write.is c.write_all-in-Write.ensures.ok

-- the line of `Write`, where a write fails
pub returns-in-Write-clause-failed : goal.returns-in-Write-clause-failed
returns-in-Write-clause-failed g c = rw c.in-Write.is c.write_all-in-Write.ensures.failed

-- the line of `Memory`
pub returns-in-Memory-clause-ok : goal.returns-in-Memory-clause-ok
returns-in-Memory-clause-ok g c = rw c.in-Memory.is c.write_all-in-Memory.ensures.ok

-- the line of `Memory`, where a write fails
pub returns-in-Memory-clause-failed : goal.returns-in-Memory-clause-failed
returns-in-Memory-clause-failed g c = rw c.in-Memory.is c.write_all-in-Memory.ensures.failed
