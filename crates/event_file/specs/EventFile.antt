-- What the lines of a file say, and where they stop; and the events of an event file.
use Rattle.std.specs.Prelude.{ℕ, ◌+◌, nat_lt, nat_le, Bool, List, [], ◌∷◌, length, Option, Some, None, Result, Ok, Err}
use Rattle.std.specs.Prelude.{if◌then◌else◌}
use Rattle.actions.specs.Names.{Names}
use Rattle.event_file.specs.declared.fault.LineFault.{LineFault}
use Rattle.event_file.specs.declared.fault.LineFault.TheVariants as faults
use Rattle.event_file.specs.declared.limits.TheConstants.{FILE_LIMIT, FILE_EVENT_LIMIT}
use Rattle.event_file.specs.EventLines.{event_of_line}
use Rattle.event_file.specs.Limits.{Limit, TooLong, PastFile, line_limit}
use Rattle.event_file.specs.Lines.{lines_of, without_return}
use Rattle.actions.specs.Runs.{EventWithInputs}

-- where the events of a file stop: at its end, before the line of a number with its fault, before an event (in the
-- schedule of a net: a step) that is one too many, or before a line that holds the first byte that a file has no room
-- for
pub data Stop : Type 0 where
  AtEnd : Stop
  AtLine : ℕ → LineFault → Stop
  AtEvent : Stop
  AtLimit : Stop

-- the events before the first stop, and that stop; in a file of another kind its lines say something else than events
pub record FileOf (A : Type 0) : Type 0 where
  pub events : List A
  pub stop : Stop

-- no event, and that stop
abbrev pub stopped : {A : Type 0} → Stop → FileOf A
stopped stop = record { events = []; stop = stop }

-- an event in front
abbrev pub begun_by : {A : Type 0} → A → FileOf A → FileOf A
begun_by event file = record { events = event ∷ file.events; stop = file.stop }

-- The file from a line on, by what that line says: its number, the count of events before it, and what the later lines
-- make of the count after it.
abbrev pub with_line : {A : Type 0} → ℕ → ℕ → Result (Option A) LineFault → (ℕ → FileOf A) → FileOf A
with_line number count (Err fault) later = stopped (AtLine number fault)
with_line number count (Ok None) later = later count
with_line number count (Ok (Some event)) later =
    if nat_le FILE_EVENT_LIMIT count then stopped AtEvent else begun_by event (later (count + 1))

-- the file from a line on, unless the line passes a limit
abbrev pub with_limit : {A : Type 0} → Option Limit → ℕ → FileOf A → FileOf A
with_limit (Some TooLong) number file = stopped (AtLine number faults.LineTooLong)
with_limit (Some PastFile) number file = stopped AtLimit
with_limit None number file = file

-- The events of lines, by what each line says: the first of them begins after `at` bytes of the file, has that number, and has
-- `count` events before it; long says whether the file has more bytes than it may.
unfoldable pub events_of : {A : Type 0} → (List ℕ → Result (Option A) LineFault) → Bool → ℕ → ℕ → ℕ → List (List ℕ)
    → FileOf A
events_of say long at number count [] = stopped AtEnd
events_of say long at number count (raw ∷ raws) =
    with_limit (line_limit long at (length raw)) number
    (with_line number count (say (without_return raw))
    (λ next. events_of say long (at + (length raw + 1)) (number + 1) next raws))

-- What a file says, by what each of its lines says.
abbrev pub file_of : {A : Type 0} → (List ℕ → Result (Option A) LineFault) → List ℕ → FileOf A
file_of say bytes = events_of say (nat_lt FILE_LIMIT (length bytes)) 0 1 0 (lines_of bytes)

-- The events of an event file.
abbrev pub event_file : Names → List ℕ → FileOf EventWithInputs
event_file n bytes = file_of (event_of_line n) bytes
