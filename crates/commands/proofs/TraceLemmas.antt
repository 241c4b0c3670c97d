-- A program that is read from one file and runs over another.
use Rattle.std.proofs.Common.{◌≡◌, ℕ, List, Result, Ok, Err, sym, ap, ◌∙◌, inl, inr}
use Rattle.std.specs.Str.{bytes_eq}
use Rattle.std.proofs.lemmas.Bool.{cases_Bool}
use Rattle.std.proofs.lemmas.Slice.Eq.{bytes_eq-Decides}
use Rattle.std.specs.Io.KnownBytes.{IsAtEnd}
use Rattle.flow_base.specs.Causes.{OthersKept}
use Rattle.flow_base.specs.declared.bounds.Bounds.{Bounds}
use Rattle.step_driver.specs.Driving.{Drives}
use Rattle.step_driver.specs.declared.driver.DriveEnd.{DriveEnd}
use Rattle.step_driver.specs.declared.driver.DriveEnd.TheVariants as answers
use Rattle.commands.specs.Call.{Sources, Call}
use Rattle.commands.specs.Reading.{ReadWhole, Gives}
use Rattle.commands.proofs.ReadingLemmas.{read_out-IsAtEnd}
use Rattle.commands.specs.declared.traced.TraceEnd.{TraceEnd}
use Rattle.commands.specs.declared.traced.TraceEnd.TheVariants as runs
use Rattle.commands.specs.FileRuns.{FileRan}
use Rattle.commands.specs.Trace.{Behaviour, TraceEnds, Driven, NotBegun, seen_of, end_of}

-- after a run only the event file isn't as it was
pub trace_others : (b : Behaviour) (call : Call) (second : List ℕ) (end : TraceEnd) → TraceEnds b call second end
    → OthersKept second call.sources_before.left call.sources_after.left
trace_others b call second end (Driven d) = d.others
trace_others b call second end (NotBegun e same out) = λ other ne. ap (λ (s : Sources). s.left other) same

-- a driven run that ended well leaves nothing of the event file
driven_end : (b : Behaviour) (call : Call) (second : List ℕ) (answer : Result (Unit {0}) DriveEnd)
    → Drives b.starts b.reacts b.tree b.names (seen_of call second) answer → runs.Done ≡ end_of b.names answer
    → IsAtEnd (call.sources_after.left second)
driven_end b call second (Ok done) d e = d.1
driven_end b call second (Err (answers.Line number fault)) d e = absurd cc
driven_end b call second (Err (answers.Fault index fault)) d e = absurd cc
driven_end b call second (Err answers.Read) d e = absurd cc
driven_end b call second (Err answers.Write) d e = absurd cc
driven_end b call second (Err answers.TooManyLines) d e = absurd cc
driven_end b call second (Err answers.FileTooLong) d e = absurd cc
driven_end b call second (Err answers.Memory) d e = absurd cc

-- a run that ended well leaves nothing of the event file
trace_end : (b : Behaviour) (call : Call) (second : List ℕ) (end : TraceEnd) → TraceEnds b call second end → end ≡ runs.Done
    → IsAtEnd (call.sources_after.left second)
trace_end b call second end (Driven d) e = driven_end b call second d.answer d.drives (sym e ∙ d.end_is)
trace_end b call second end (NotBegun m same out) e = absurd (let bad = sym e ∙ m in cc)

-- nothing is left of a file that was read whole, after another was read to its end, whether they have two names or one
first_end : (before between after : Sources) (first second text : List ℕ) → ReadWhole before between first text
    → OthersKept second between.left after.left → IsAtEnd (after.left second) → IsAtEnd (after.left first)
first_end before between after first second text read kept end =
    elim (cases_Bool (bytes_eq first second)) [
      | inl same ↦ rw ((bytes_eq-Decides first second).0 same) end
      | inr other ↦ rw (kept first (λ e. let bad = sym ((bytes_eq-Decides first second).1 e) ∙ other in cc), read.at_end) (read_out-IsAtEnd _)
    ]

-- what the first file means ran over the second
pub file_ran : {P : Type 0} (Means : List ℕ → P → Type 0) (behaves : P → Bounds → Behaviour) (call : Call)
    (first second : List ℕ) (between : Sources) (program : P) (bounds : Bounds) (end : TraceEnd)
    → Gives Means call.sources_before between first program
    → TraceEnds (behaves program bounds) (record call { sources_before = between }) second end
    → FileRan Means behaves bounds call first second end
file_ran Means behaves call first second between program bounds end given traced =
    let b = behaves program bounds in
    let later : Call = record call { sources_before = between } in
    record {
      program = program;
      between = between;
      first_read = given;
      traces = traced;
      first_end = λ e. first_end call.sources_before between call.sources_after first second given.text given.read
          (trace_others b later second end traced) (trace_end b later second end traced e);
      second_end = λ e. trace_end b later second end traced e;
    }
