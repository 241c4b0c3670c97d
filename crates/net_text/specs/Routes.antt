-- A route with numbers for its names.
use Rattle.std.specs.Prelude.{◌≡◌, ℕ, ◌<◌, ◌^◌, length, nat_eq, Bool, true, false, not, ◌&&◌, List, Option, Some}
use Rattle.std.specs.Prelude.{None, option_map, option_and_then, slice_get, if◌then◌else◌}
use Rattle.std.specs.List.{position}
use Rattle.std.specs.Str.{bytes_eq}
use Rattle.fixed_point.specs.declared.scale.Scale.{Scale}
use Rattle.actions.specs.Engines.{IsInputEvent}
use Rattle.actions.specs.Names.{Names}
use Rattle.actions.specs.declared.names.EventDecl.{EventDecl}
use Rattle.actions.specs.declared.names.EventKind.{EventKind}
use Rattle.actions.specs.declared.names.EventKind.TheVariants as event_kinds
use Rattle.actions.specs.declared.names.Sort.{Sort}
use Rattle.actions.specs.declared.names.Sort.TheVariants as sorts
use Rattle.actions.specs.declared.names.Var.{Var}
use Rattle.actions.specs.declared.names.VarKind.{VarKind}
use Rattle.actions.specs.declared.names.VarKind.TheVariants as var_kinds
use Rattle.event_file.specs.EventLines as lines
use Rattle.event_file.specs.InputValues.{is_input}
use Rattle.net_text.specs.declared.net.RouteText.{RouteText}
use Rattle.net_text.specs.declared.route.Route.{Route}

-- ---- events

-- the chart emits the event
abbrev pub is_emitted : EventKind → Bool
is_emitted event_kinds.Input = false
is_emitted event_kinds.Local = false
is_emitted event_kinds.Output = true

-- an output event of that name
abbrev pub is_output_event : List ℕ → EventDecl → Bool
is_output_event name event = bytes_eq event.name name && is_emitted event.kind

-- an input event of that name
abbrev pub is_input_event : List ℕ → EventDecl → Bool
is_input_event name event = bytes_eq event.name name && lines.is_input_event event.kind

-- the number of the output event of that name
abbrev pub output_event : List ℕ → Names → Option ℕ
output_event name n = position (is_output_event name) n.events

-- the number of the input event of that name
abbrev pub input_event : List ℕ → Names → Option ℕ
input_event name n = position (is_input_event name) n.events

-- ---- data

-- the chart sets the datum for its environment
abbrev pub is_set_by_chart : VarKind → Bool
is_set_by_chart var_kinds.Input = false
is_set_by_chart var_kinds.Output = true
is_set_by_chart var_kinds.Local = false

-- an output datum of that name
abbrev pub is_output_datum : List ℕ → Var → Bool
is_output_datum name var = bytes_eq var.name name && is_set_by_chart var.kind

-- an input of that name
abbrev pub is_input_datum : List ℕ → Var → Bool
is_input_datum name var = bytes_eq var.name name && is_input var.kind

-- the number of the output datum of that name
abbrev pub output_datum : List ℕ → Names → Option ℕ
output_datum name n = position (is_output_datum name) n.vars

-- the number of the input of that name
abbrev pub input_datum : List ℕ → Names → Option ℕ
input_datum name n = position (is_input_datum name) n.vars

-- both are signed, or neither is
abbrev pub same_sign : Bool → Bool → Bool
same_sign true b = b
same_sign false b = not b

-- the scales are the same
abbrev pub same_scale : Scale → Scale → Bool
same_scale a b = same_sign a.signed b.signed && (nat_eq a.width b.width && nat_eq a.frac b.frac)

-- the sorts are the same
abbrev pub same_sort : Sort → Sort → Bool
same_sort sorts.Flag sorts.Flag = true
same_sort sorts.Flag (sorts.Number b) = false
same_sort (sorts.Number a) sorts.Flag = false
same_sort (sorts.Number a) (sorts.Number b) = same_scale a b

-- both data are there, and their sorts are the same
abbrev pub have_same_sort : Option Var → Option Var → Bool
have_same_sort None target = false
have_same_sort (Some source) None = false
have_same_sort (Some source) (Some target) = same_sort source.sort target.sort

-- the numbers of the data of a route, if it has data
pub record DataNumbers : Type 0 where
  pub source : Option ℕ
  pub target : Option ℕ

-- the data of those numbers, where their sorts are the same
abbrev pub numbers_with : Names → Names → ℕ → ℕ → Option DataNumbers
numbers_with from to source target =
    if have_same_sort (slice_get from.vars source) (slice_get to.vars target)
    then Some (record { source = Some source; target = Some target }) else None

-- an output datum of the one chart and an input of the other by their names
abbrev pub numbers_named : Names → Names → List ℕ → List ℕ → Option DataNumbers
numbers_named from to source target =
    option_and_then (λ s. option_and_then (numbers_with from to s) (input_datum target to)) (output_datum source from)

-- neither datum, or both
abbrev pub data_numbers : Names → Names → Option (List ℕ) → Option (List ℕ) → Option DataNumbers
data_numbers from to None None = Some (record { source = None; target = None })
data_numbers from to None (Some target) = None
data_numbers from to (Some source) None = None
data_numbers from to (Some source) (Some target) = numbers_named from to source target

-- ---- what a route joins

-- the event of that number is an output event
abbrev pub IsOutputEvent : Names → ℕ → Type 0
IsOutputEvent n e = (decl : EventDecl) × (slice_get n.events e ≡ Some decl) × (decl.kind ≡ event_kinds.Output)

-- the datum of the one number is an output, that of the other an input, and their sorts are the same
pub record AreJoined (from to : Names) (s t : ℕ) : Type 0 where
  pub source : Var
  pub target : Var
  pub sent : slice_get from.vars s ≡ Some source
  pub given : slice_get to.vars t ≡ Some target
  pub output : source.kind ≡ var_kinds.Output
  pub input : target.kind ≡ var_kinds.Input
  pub sorts : source.sort ≡ target.sort

-- there is neither datum, or both are such
abbrev pub DataJoined : Names → Names → Option ℕ → Option ℕ → Type 0
DataJoined from to None None = Unit {0}
DataJoined from to None (Some t) = ⊥
DataJoined from to (Some s) None = ⊥
DataJoined from to (Some s) (Some t) = AreJoined from to s t

-- a route leads from an output event of the one chart to an input event of the other, and its data are such
pub record Joins (from to : Names) (route : Route) : Type 0 where
  pub emit : IsOutputEvent from route.emit
  pub event : IsInputEvent to route.event
  pub pair : DataJoined from to route.source route.target

-- ---- routes

-- events and data have numbers below 2^32
pub record AreFew (n : Names) : Type 0 where
  pub events : length n.events < 2 ^ 32
  pub vars : length n.vars < 2 ^ 32

-- the route with that event for what it sends and that one for what it gives
abbrev pub route_with : RouteText → ℕ → ℕ → DataNumbers → Route
route_with text emit event pair =
    record {
      from = text.from;
      emit = emit;
      to = text.to;
      event = event;
      cap = text.cap;
      source = pair.source;
      target = pair.target;
    }

-- the charts and the number of items are those of the text
pub record HasSameNumbers (text : RouteText) (route : Route) : Type 0 where
  pub from : route.from ≡ text.from
  pub to : route.to ≡ text.to
  pub cap : route.cap ≡ text.cap

-- the route that a text names between two charts, where EVENT, SRC and DST are such as the charts have
unfoldable pub route_of : RouteText → Names → Names → Option Route
route_of text from to =
    option_and_then (λ emit.
    option_and_then (λ event.
    option_map (route_with text emit event) (data_numbers from to text.source text.target))
    (input_event text.event to))
    (output_event text.emit from)
