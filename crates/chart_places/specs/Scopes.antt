-- What a name means where it stands.
use Rattle.std.specs.Prelude.{◌==◌, ◌&&◌, ℕ, suc, Bool, false, List, [], ◌∷◌, length, map, Option}
use Rattle.std.specs.Prelude.{Some, None, Result, Ok, Err, bytes_eq, slice_get, if◌then◌else◌}
use Rattle.std.specs.Option.{option_map_or}
use Rattle.std.specs.List.{find, range_with_len}
use Rattle.token_grammar.specs.declared.token.Span.{Span}
use Rattle.active_config.specs.Tree.{Tree, children_of, ancestors}
use Rattle.chart_tree.specs.declared.name.NameText.{NameText}
use Rattle.chart_tree.specs.declared.chart.EventText.{EventText}
use Rattle.chart_tree.specs.Trees.{Var, Path, Chart}
use Rattle.chart_places.specs.Placed.{Placed, Owned, placed_states, placed_tree, placed_junctions, is_earlier}

-- the name of a junction, and the state in which it stands
pub record JunctionName : Type 0 where
  pub owner : ℕ
  pub name : NameText

-- the name of a junction of a chart text
abbrev pub junction_name : Owned → JunctionName
junction_name o = record { owner = o.owner; name = o.junction.name }

-- all that names are looked for in: the tree, the names of its states, of the junctions, of the events and of the data
pub record Scopes : Type 0 where
  pub tree : Tree
  pub states : List NameText
  pub junctions : List JunctionName
  pub events : List NameText
  pub vars : List NameText

-- those of a chart text
unfoldable pub scopes_of : Chart → Scopes
scopes_of c = record {
  tree = placed_tree (placed_states c.root);
  states = map (λ (p : Placed). p.parts.name) (placed_states c.root);
  junctions = map junction_name (placed_junctions (placed_states c.root));
  events = map (λ (e : EventText). e.name) c.events;
  vars = map (λ (v : Var). v.name) c.vars;
}

-- ---- states

-- whether state x has the name
abbrev pub is_named : Scopes → List ℕ → ℕ → Bool
is_named p name x = option_map_or (λ (n : NameText). bytes_eq n.text name) (slice_get p.states x) false

-- the first child of state s that has the name
unfoldable pub child_named : Scopes → ℕ → List ℕ → Option ℕ
child_named p s name = find (is_named p name) (children_of p.tree s)

-- the one, or else the other
abbrev pub or_else : Option ℕ → Option ℕ → Option ℕ
or_else None other = other
or_else (Some x) other = Some x

-- the first child that has the name, of the first of some states that has one
abbrev pub named_in : Scopes → List ℕ → List ℕ → Option ℕ
named_in p name [] = None
named_in p name (s ∷ above) = or_else (child_named p s name) (named_in p name above)

-- the state that the first name of a path denotes in state s: a child of s, or of the lowest state above it that has a
-- child of that name
unfoldable pub state_named : Scopes → ℕ → List ℕ → Option ℕ
state_named p s name = named_in p name (s ∷ ancestors p.tree s)

-- the search goes on from a state that was found, and ends at the place of a name that wasn't
abbrev pub from_state : Option ℕ → Span → (ℕ → Result ℕ Span) → Result ℕ Span
from_state None at next = Err at
from_state (Some x) at next = next x

-- each further name of a path is that of a child of the state before it
abbrev pub follow : Scopes → ℕ → Path → Result ℕ Span
follow p s [] = Ok s
follow p s (name ∷ names) = from_state (child_named p s name.text) name.at (λ x. follow p x names)

-- the state that a path denotes in state s, or the place of the first name that isn't found
abbrev pub state_at : Scopes → ℕ → Path → Result ℕ Span
state_at p s [] = Ok s
state_at p s (name ∷ names) = from_state (state_named p s name.text) name.at (λ x. follow p x names)

-- ---- junctions

-- whether junction j stands in state s and has the name
abbrev pub is_junction_of : Scopes → ℕ → List ℕ → ℕ → Bool
is_junction_of p s name j =
    option_map_or (λ (o : JunctionName). (o.owner == s) && bytes_eq o.name.text name) (slice_get p.junctions j) false

-- the first junction of state s that has the name
unfoldable pub junction_named : Scopes → ℕ → List ℕ → Option ℕ
junction_named p s name = find (is_junction_of p s name) (range_with_len 0 (length p.junctions))

-- the first junction that has the name, of the first of some states that has one
abbrev pub junction_in : Scopes → List ℕ → List ℕ → Option ℕ
junction_in p name [] = None
junction_in p name (s ∷ above) = or_else (junction_named p s name) (junction_in p name above)

-- the junction that a name denotes in state s: one of s, or of the lowest state above it that has one of that name
unfoldable pub junction_at : Scopes → ℕ → List ℕ → Option ℕ
junction_at p s name = junction_in p name (s ∷ ancestors p.tree s)

-- ---- events and data

-- an event or a datum, by its number
pub data Meaning : Type 0 where
  Event : ℕ → Meaning
  Datum : ℕ → Meaning

-- the number of the first of some names that is the name, where the first of them has number n
abbrev pub number_from : ℕ → List NameText → List ℕ → Option ℕ
number_from n [] name = None
number_from n (x ∷ xs) name = if bytes_eq x.text name then Some n else number_from (suc n) xs name

-- the place of what stands in no text
abbrev pub nowhere : Span
nowhere = record { line = 0; column = 0 }

-- the place of the name of number n
abbrev pub place_of : List NameText → ℕ → Span
place_of names n = option_map_or (λ (x : NameText). x.at) (slice_get names n) nowhere

-- of an event and a datum of one name the one whose name stands first in the text
abbrev pub earlier_declared : Scopes → Option ℕ → Option ℕ → Option Meaning
earlier_declared p None None = None
earlier_declared p None (Some v) = Some (Datum v)
earlier_declared p (Some e) None = Some (Event e)
earlier_declared p (Some e) (Some v) =
    if is_earlier (place_of p.vars v) (place_of p.events e) then Some (Datum v) else Some (Event e)

-- what a name means: the first event or datum in the text that is declared with it
unfoldable pub meaning_of : Scopes → List ℕ → Option Meaning
meaning_of p name = earlier_declared p (number_from 0 p.events name) (number_from 0 p.vars name)
