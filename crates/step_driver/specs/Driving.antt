-- What a driver writes, by its answer.
use Rattle.std.specs.Prelude.{◌≡◌, nat_eq, ◌⊎◌, Bool, true, ℕ, ◌+◌, ◌≤◌, List, [], ◌∷◌, ◌++◌, length, Option, Some}
use Rattle.std.specs.Prelude.{None, is_some, Result, Ok, Err}
use Rattle.std.specs.Io.KnownBytes.{append_known, prepend_known, IsAtEnd}
use Rattle.flow_base.specs.Bytes.{AppendsProperFront}
use Rattle.flow_base.specs.declared.fault.Fault.{Fault}
use Rattle.active_config.specs.Tree.{Tree}
use Rattle.actions.specs.Names.{Names}
use Rattle.actions.specs.Runs.{EventWithInputs, StartRelation, ReactionRelation}
use Rattle.actions.specs.World.{World}
use Rattle.actions.specs.declared.event.Event.TheVariants.{Start}
use Rattle.event_file.specs.EventFile.{Stop, AtEnd, AtLine, AtEvent, AtLimit, file_of}
use Rattle.event_file.specs.EventLines.{event_of_line}
use Rattle.event_file.specs.Lines.{IsPlain}
use Rattle.trace_text.specs.Trace.{trace_line}
use Rattle.event_file.specs.declared.limits.TheConstants.{LINE_LIMIT, FILE_LIMIT, BUFFER_SIZE}
use Rattle.step_driver.specs.StepRuns.{StepRuns}
use Rattle.step_driver.specs.Traces.{RunFault, Ran}
use Rattle.step_driver.specs.declared.driver.DriveEnd.{DriveEnd}
use Rattle.step_driver.specs.declared.driver.DriveEnd.TheVariants as ends

-- what the sink has been given and what is left of the file, before the call and after it, where each is told
pub record Seen : Type 0 where
  pub wrote_before : Option (List ℕ)
  pub wrote_after : Option (List ℕ)
  pub left_before : Option (List ℕ)
  pub left_after : Option (List ℕ)

-- the text is that of the file; where the source doesn't tell its bytes, any text may be
abbrev pub IsText : Option (List ℕ) → List ℕ → Type 0
IsText None text = Unit {0}
IsText (Some told) text = told ≡ text

-- the bytes are lines, each with its newline
abbrev pub is_closed : List ℕ → Bool
is_closed [] = true
is_closed (b ∷ []) = nat_eq b 10
is_closed (b ∷ (d ∷ bytes)) = is_closed (d ∷ bytes)

-- the whole lines of bytes that were given: what comes after them has no newline
pub record HasWhole (given whole : List ℕ) : Type 0 where
  pub rest : List ℕ
  pub split : given ≡ whole ++ rest
  pub closed : is_closed whole ≡ true
  pub plain : IsPlain rest

-- ---- of any steps

-- the trace of the run over all steps of the file was written, and the answer says how run and steps ended
pub record WroteAll (s : StepRuns) (seen : Seen) (result : Result (Unit {0}) s.Error) : Type 0 where
  pub text : List ℕ
  pub is_text : IsText seen.left_before text
  pub trace : List ℕ
  pub end : Option s.End
  pub ran : s.Ran (file_of s.say text).events trace end
  pub wrote : seen.wrote_after ≡ append_known seen.wrote_before trace
  pub answer : result ≡ s.answer_of end (file_of s.say text).stop

-- A read failed, where all bytes that were given ask for more: the steps of their whole lines don't stop before the
-- end, and what comes after them passes no limit. The trace of the run over those steps was written.
pub record WroteGiven (s : StepRuns) (seen : Seen) : Type 0 where
  pub given : List ℕ
  pub taken : seen.left_before ≡ prepend_known given seen.left_after
  pub whole : List ℕ
  pub has_whole : HasWhole given whole
  pub good : (file_of s.say whole).stop ≡ AtEnd
  pub short : length has_whole.rest ≤ LINE_LIMIT
  pub within : length given ≤ FILE_LIMIT
  pub trace : List ℕ
  pub ran : s.Ran (file_of s.say whole).events trace None
  pub wrote : seen.wrote_after ≡ append_known seen.wrote_before trace

-- A write failed: a front of the trace of the run over the first steps of the file was written, which isn't all of it.
-- Where not even what the trace begins with was written whole, no byte of the file was taken.
pub record WrotePart (s : StepRuns) (seen : Seen) : Type 0 where
  pub text : List ℕ
  pub is_text : IsText seen.left_before text
  pub trace : List ℕ
  pub end : Option s.End
  pub ran : s.RanFirst (file_of s.say text).events trace end
  pub front : AppendsProperFront seen.wrote_before seen.wrote_after trace
  pub untouched : (begin : List ℕ) → s.IsBegin begin → is_some seen.wrote_before ≡ true
      → AppendsProperFront seen.wrote_before seen.wrote_after begin → seen.left_after ≡ seen.left_before

-- memory ran out: nothing was written, or the trace of the run over the first steps of the file
pub record WroteSome (s : StepRuns) (seen : Seen) : Type 0 where
  pub text : List ℕ
  pub is_text : IsText seen.left_before text
  pub trace : List ℕ
  pub ran : (trace ≡ []) ⊎ s.RanFirst (file_of s.say text).events trace None
  pub wrote : seen.wrote_after ≡ append_known seen.wrote_before trace

-- What was taken of the file: whole lines, whose steps don't stop before the end, and at most a buffer of bytes after
-- them, of which at most one is past the file's limit. The run over those steps didn't end before them, and its trace
-- was written.
pub record TakesLines (s : StepRuns) (seen : Seen) : Type 0 where
  pub lines : List ℕ
  pub ahead : List ℕ
  pub taken : seen.left_before ≡ prepend_known (lines ++ ahead) seen.left_after
  pub closed : is_closed lines ≡ true
  pub good : (file_of s.say lines).stop ≡ AtEnd
  pub few : length ahead ≤ BUFFER_SIZE
  pub within : length (lines ++ ahead) ≤ FILE_LIMIT + 1
  pub trace : List ℕ
  pub more : List ℕ
  pub ran : s.Ran (file_of s.say lines).events trace None
  pub wrote : seen.wrote_after ≡ append_known seen.wrote_before (trace ++ more)

-- nothing was taken of the file, or no more than that
abbrev pub TakesNoMore : StepRuns → Seen → Type 0
TakesNoMore s seen = (seen.left_after ≡ seen.left_before) ⊎ TakesLines s seen

-- the whole trace was written, and no more than that was taken
abbrev pub Wrote : (s : StepRuns) → Seen → Result (Unit {0}) s.Error → Type 0
Wrote s seen result = WroteAll s seen result × TakesNoMore s seen

-- ---- of the events of an engine

-- the run over the first of the events has that trace, and that fault or none
pub record RanFirst (start : StartRelation) (react : ReactionRelation) (t : Tree) (n : Names)
    (all : List EventWithInputs) (trace : List ℕ) (fault : Option RunFault) : Type 0 where
  pub events : List EventWithInputs
  pub rest : List EventWithInputs
  pub first_events : all ≡ events ++ rest
  pub ran : Ran start react t n events trace fault

-- the text is the line of the trace for a start
pub record IsStartLine (start : StartRelation) (t : Tree) (n : Names) (text : List ℕ) : Type 0 where
  pub world : World
  pub fault : Option Fault
  pub starts : start world fault
  pub line : text ≡ trace_line t n world 0 Start fault

-- the answer for the whole file: the fault of the run, or else where the events stop
abbrev pub answer_of : Option RunFault → Stop → Result (Unit {0}) DriveEnd
answer_of (Some f) stop = Err (ends.Fault f.index f.fault)
answer_of None AtEnd = Ok tt
answer_of None (AtLine number fault) = Err (ends.Line number fault)
answer_of None AtEvent = Err ends.TooManyLines
answer_of None AtLimit = Err ends.FileTooLong

-- an engine is driven over the events of an event file; before the first event its trace has the line of the start
abbrev pub engine_runs : StartRelation → ReactionRelation → Tree → Names → StepRuns
engine_runs start react t n = record {
  Step = EventWithInputs;
  say = event_of_line n;
  End = RunFault;
  Ran = Ran start react t n;
  RanFirst = RanFirst start react t n;
  IsBegin = IsStartLine start t n;
  Error = DriveEnd;
  answer_of = answer_of;
}

-- What the driver did, by its answer.
abbrev pub Drives : StartRelation → ReactionRelation → Tree → Names → Seen → Result (Unit {0}) DriveEnd → Type 0
Drives start react t n seen (Ok done) = WroteAll (engine_runs start react t n) seen (Ok done) × IsAtEnd seen.left_after
Drives start react t n seen (Err (ends.Line number fault)) =
    Wrote (engine_runs start react t n) seen (Err (ends.Line number fault))
Drives start react t n seen (Err (ends.Fault index fault)) =
    Wrote (engine_runs start react t n) seen (Err (ends.Fault index fault))
Drives start react t n seen (Err ends.Read) = WroteGiven (engine_runs start react t n) seen
Drives start react t n seen (Err ends.Write) =
    WrotePart (engine_runs start react t n) seen × TakesNoMore (engine_runs start react t n) seen
Drives start react t n seen (Err ends.TooManyLines) =
    Wrote (engine_runs start react t n) seen (Err ends.TooManyLines)
Drives start react t n seen (Err ends.FileTooLong) = Wrote (engine_runs start react t n) seen (Err ends.FileTooLong)
Drives start react t n seen (Err ends.Memory) =
    WroteSome (engine_runs start react t n) seen × TakesNoMore (engine_runs start react t n) seen
