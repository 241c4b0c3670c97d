-- The lines of a trace.
use Rattle.std.specs.Prelude.{ℕ, ◌-◌, ◌<◌, List, [], ◌∷◌, ◌++◌, length, map, drop, reverse, codes, decimal, Option}
use Rattle.std.specs.Prelude.{Some, None, if◌then◌else◌, slice_index_or}
use Rattle.std.specs.List.{filter, join_with_byte, range_with_len, slice_get}
use Rattle.std.specs.Option.{option_map_or}
use Rattle.flow_base.specs.declared.fault.Fault.{Fault}
use Rattle.flow_base.specs.declared.fault.Fault.TheVariants as run_faults
use Rattle.fixed_point.specs.Text.{decimal_text}
use Rattle.active_config.specs.Marks.{Configuration, is_on}
use Rattle.active_config.specs.Tree.{Tree, state_count, ancestors}
use Rattle.actions.specs.Data.{Datum, value_of_datum}
use Rattle.actions.specs.Names.{Names}
use Rattle.actions.specs.World.{World}
use Rattle.actions.specs.declared.engine.View.{View}
use Rattle.actions.specs.declared.event.Event.{Event}
use Rattle.actions.specs.declared.event.Event.TheVariants as events
use Rattle.actions.specs.declared.expr.Value.{Value}
use Rattle.actions.specs.declared.expr.Value.TheVariants as values
use Rattle.actions.specs.declared.names.EventDecl.{EventDecl}
use Rattle.actions.specs.declared.names.Var.{Var}

-- the name of a state
abbrev pub state_name : Names → ℕ → List ℕ
state_name n s = slice_index_or n.states s []

-- the name of a datum
abbrev pub datum_name : Names → ℕ → List ℕ
datum_name n v = option_map_or (λ (x : Var). x.name) (slice_get n.vars v) []

-- the name of an event
abbrev pub event_name : Names → ℕ → List ℕ
event_name n e = option_map_or (λ (x : EventDecl). x.name) (slice_get n.events e) []

-- the word of an event
abbrev pub event_word : Names → Event → List ℕ
event_word n events.Start = codes "start"
event_word n events.Tick = codes "tick"
event_word n (events.Named e) = event_name n e

-- the number of an event is one of its events
abbrev pub IsEventOf : Names → Event → Type 0
IsEventOf n events.Start = Unit {0}
IsEventOf n events.Tick = Unit {0}
IsEventOf n (events.Named e) = e < length n.events

-- the path of a state: the names of the states above it but the root, the highest first, and then its own, with `/`
-- between
unfoldable pub path_of : Tree → Names → ℕ → List ℕ
path_of t n s = join_with_byte 47 (map (state_name n) (drop 1 (reverse (s ∷ ancestors t s))))

-- the active states but the root, in order
abbrev pub active_states : Tree → Configuration → List ℕ
active_states t marks = filter (λ s. is_on s marks) (range_with_len 1 (state_count t - 1))

-- a value: a flag's word, or a number in the shortest exact decimal text
abbrev pub value_text : Value → List ℕ
value_text (values.Flag b) = if b then codes "true" else codes "false"
value_text (values.Number x) = decimal_text x.mantissa x.frac

-- each datum with its value
abbrev pub value_texts : List Var → List Datum → List (List ℕ)
value_texts [] vals = []
value_texts (v ∷ vars) [] = []
value_texts (v ∷ vars) (d ∷ vals) = (v.name ++ codes "=" ++ value_text (value_of_datum d)) ∷ value_texts vars vals

-- texts with commas between them, or `-` where there is none
abbrev pub listed : List (List ℕ) → List ℕ
listed [] = codes "-"
listed (first ∷ rest) = join_with_byte 44 (first ∷ rest)

-- how an event ended
abbrev pub result_word : Names → Option Fault → List ℕ
result_word n None = codes "ok"
result_word n (Some run_faults.Depth) = codes "depth"
result_word n (Some run_faults.Steps) = codes "steps"
result_word n (Some (run_faults.Overflow v)) = codes "overflow " ++ datum_name n v
result_word n (Some run_faults.Zero) = codes "zero"

-- the result where what an event emitted found the route of that number full
abbrev pub full_word : ℕ → List ℕ
full_word route = codes "full " ++ decimal route

-- a line up to its result: index, event, active states, values and outputs
unfoldable pub line_front : Tree → Names → Configuration → List Datum → List ℕ → ℕ → Event → List ℕ
line_front t n marks vals outputs index event =
    decimal index ++ codes " " ++ event_word n event
    ++ codes " [" ++ join_with_byte 44 (map (path_of t n) (active_states t marks))
    ++ codes "] " ++ listed (value_texts n.vars vals)
    ++ codes " " ++ listed (map (event_name n) outputs) ++ codes " "

-- a line with any word for its result
unfoldable pub line_of : Tree → Names → Configuration → List Datum → List ℕ → ℕ → Event → List ℕ → List ℕ
line_of t n marks vals outputs index event word =
    line_front t n marks vals outputs index event ++ word ++ codes "\n"

-- The line of a world, with its index and event, and any word for its result.
abbrev pub line_with : Tree → Names → World → ℕ → Event → List ℕ → List ℕ
line_with t n w index event word = line_of t n w.marks w.vals w.outputs index event word

-- The line of a world, with its index, event and fault or none.
abbrev pub trace_line : Tree → Names → World → ℕ → Event → Option Fault → List ℕ
trace_line t n w index event fault = line_with t n w index event (result_word n fault)

-- what a view shows, as a world in which no step is used
abbrev pub world_of : View → World
world_of view = record { marks = view.marks.now; vals = view.vals.now; outputs = view.outputs.now; used = 0 }
