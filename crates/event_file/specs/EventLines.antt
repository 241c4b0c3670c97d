-- What a line of an event file says: an event with inputs, nothing, or its first fault by tokens from the left.
use Rattle.std.specs.Prelude.{ℕ, nat_eq, nat_lt, Bool, true, false, ◌||◌, List, [], ◌∷◌, length, codes}
use Rattle.std.specs.Prelude.{Option, Some, None, Result, Ok, Err, if◌then◌else◌, slice_get, slice_index}
use Rattle.std.specs.List.{filter, position, slice_split}
use Rattle.std.specs.Str.{bytes_eq}
use Rattle.actions.specs.Names.{Names}
use Rattle.actions.specs.declared.event.Event.{Event}
use Rattle.actions.specs.declared.expr.Value.{Value}
use Rattle.actions.specs.declared.event.Event.TheVariants as events
use Rattle.actions.specs.declared.names.EventDecl.{EventDecl}
use Rattle.actions.specs.declared.names.EventKind.{EventKind}
use Rattle.actions.specs.declared.names.EventKind.TheVariants as event_kinds
use Rattle.event_file.specs.declared.fault.LineFault.{LineFault}
use Rattle.event_file.specs.declared.fault.LineFault.TheVariants as faults
use Rattle.event_file.specs.InputValues.{no_inputs, and_then, all_given}
use Rattle.actions.specs.Runs.{EventWithInputs, CanBeGiven}

-- a space or a tab
abbrev pub is_blank : ℕ → Bool
is_blank b = nat_eq b 32 || nat_eq b 9

-- the tokens of a line: what stands between spaces and tabs
abbrev pub tokens_of : List ℕ → List (List ℕ)
tokens_of line = filter (λ token. nat_lt 0 (length token)) (slice_split is_blank line)

-- ---- the event

-- the event comes from the world around the chart
abbrev pub is_input_event : EventKind → Bool
is_input_event event_kinds.Input = true
is_input_event event_kinds.Local = false
is_input_event event_kinds.Output = false

-- the event is declared as an input event
abbrev pub is_declared_input : Option EventDecl → Bool
is_declared_input None = false
is_declared_input (Some decl) = is_input_event decl.kind

-- the event of that number, if the name has one
abbrev pub named_event : Names → Option ℕ → Result Event LineFault
named_event n None = Err faults.UnknownEvent
named_event n (Some e) =
    if is_declared_input (slice_get n.events e) then Ok (events.Named e) else Err faults.NotInputEvent

-- the event that the first token spells: `tick`, or the first event that has the name
abbrev pub event_of : Names → List ℕ → Result Event LineFault
event_of n token =
    if bytes_eq token (codes "tick") then Ok events.Tick
    else named_event n (position (λ (e : EventDecl). bytes_eq e.name token) n.events)

-- ---- the line

-- the event with what the further tokens give
abbrev pub with_tokens : Names → List (List ℕ) → Event → Result (Option EventWithInputs) LineFault
with_tokens n tokens event =
    and_then (all_given n (no_inputs n) tokens) (λ inputs. Ok (Some (record { event = event; inputs = inputs })))

-- nothing where there is no token or the first begins with `#`, and else the event with its inputs
abbrev pub event_of_tokens : Names → List (List ℕ) → Result (Option EventWithInputs) LineFault
event_of_tokens n [] = Ok None
event_of_tokens n (first ∷ rest) =
    if nat_eq (slice_index first 0) 35 then Ok None else and_then (event_of n first) (with_tokens n rest)

-- What a line says: an event with inputs, nothing where it is skipped, or its first fault.
unfoldable pub event_of_line : Names → List ℕ → Result (Option EventWithInputs) LineFault
event_of_line n line = event_of_tokens n (tokens_of line)

-- ---- what a caller of the reader of lines sees

-- the event alone
abbrev pub event_alone : Option EventWithInputs → Option Event
event_alone None = None
event_alone (Some given) = Some given.event

-- the answer for a line: its event, nothing, or its fault
abbrev pub answer_of : Result (Option EventWithInputs) LineFault → Result (Option Event) LineFault
answer_of (Ok event) = Ok (event_alone event)
answer_of (Err fault) = Err fault

-- the inputs for a line: none unless it says an event
abbrev pub inputs_of : Names → Result (Option EventWithInputs) LineFault → List (Option Value)
inputs_of n (Ok None) = no_inputs n
inputs_of n (Ok (Some given)) = given.inputs
inputs_of n (Err fault) = no_inputs n

-- a line that says an event says one that a running engine can be given
abbrev pub SaysWhatCanBeGiven : Names → Result (Option EventWithInputs) LineFault → Type 0
SaysWhatCanBeGiven n (Ok None) = Unit {0}
SaysWhatCanBeGiven n (Ok (Some given)) = CanBeGiven n given
SaysWhatCanBeGiven n (Err fault) = Unit {0}
