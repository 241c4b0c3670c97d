-- Tables of names.
use Rattle.std.specs.Prelude.{◌≡◌, ◌&&◌, ℕ, suc, nat_eq, Bool, List, [], ◌∷◌}
use Rattle.std.specs.Prelude.{map, Option, Some, None, bytes_eq, if◌then◌else◌}
use Rattle.std.specs.Borrow.{Bor}
use Rattle.std.specs.List.{AllByRecursion}
use Rattle.std.specs.Option.{option_eq, unwrap_or}
use Rattle.active_config.specs.Tree.{Tree}
use Rattle.chart_tree.specs.declared.name.NameText.{NameText}
use Rattle.chart_tree.specs.declared.chart.EventText.{EventText}
use Rattle.chart_tree.specs.Trees.{Var}
use Rattle.chart_places.specs.declared.table.Entry as code
use Rattle.chart_places.specs.Placed.{Placed, Owned}
use Rattle.chart_places.specs.Scopes.{JunctionName, Scopes, or_else}

-- ---- one table

-- a name, and the state in which it stands, if it stands in one
pub record Declared : Type 0 where
  pub owner : Option ℕ
  pub name : NameText

-- a name of the code
abbrev pub declared_of : code.Entry → Declared
declared_of e = record { owner = e.owner; name = e.name.now }

-- whether a name has these bytes and stands in that state
abbrev pub is_declared : Option ℕ → List ℕ → Declared → Bool
is_declared owner text d = option_eq nat_eq owner d.owner && bytes_eq text d.name.text

-- the number of the first of some names that has these bytes and stands in that state, where the first of them has
-- number n
abbrev pub declared_from : ℕ → List Declared → Option ℕ → List ℕ → Option ℕ
declared_from n [] owner text = None
declared_from n (d ∷ ds) owner text = if is_declared owner text d then Some n else declared_from (suc n) ds owner text

-- whether a key of a table has these bytes and that state
abbrev pub is_key : Option ℕ → List ℕ → Option ℕ × Bor (List ℕ) → Bool
is_key owner text key = option_eq nat_eq owner key.0 && bytes_eq text key.1.now

-- the number of the first name with these bytes, of the first of some states that has one
abbrev pub declared_in : List Declared → List ℕ → List ℕ → Option ℕ
declared_in ds text [] = None
declared_in ds text (s ∷ above) = or_else (declared_from 0 ds (Some s) text) (declared_in ds text above)

-- ---- the names of a chart text

-- the name of a state, which stands in its parent
abbrev pub state_name : Placed → Declared
state_name p = record { owner = p.parent; name = p.parts.name }

-- the name of a junction, which stands in its state
abbrev pub junction_name : Owned → Declared
junction_name o = record { owner = Some o.owner; name = o.junction.name }

-- the name of an event
abbrev pub event_name : EventText → Declared
event_name e = record { owner = None; name = e.name }

-- the name of a datum
abbrev pub var_name : Var → Declared
var_name v = record { owner = None; name = v.name }

-- ---- all tables of a chart text

-- names alone
abbrev pub names_in : List Declared → List NameText
names_in ds = map (λ (d : Declared). d.name) ds

-- the states in which names stand
abbrev pub owners_in : List Declared → List (Option ℕ)
owners_in ds = map (λ (d : Declared). d.owner) ds

-- the name of a junction
abbrev pub junction_entry : Declared → JunctionName
junction_entry d = record { owner = unwrap_or d.owner 0; name = d.name }

-- all that names are looked for in, of the tables of states, junctions, events and data
abbrev pub scopes_seen : Tree → List Declared → List Declared → List Declared → List Declared → Scopes
scopes_seen tree states junctions events vars = record {
  tree = tree;
  states = names_in states;
  junctions = map junction_entry junctions;
  events = names_in events;
  vars = names_in vars;
}

-- a name stands in a state
abbrev pub IsOwned : Declared → Type 0
IsOwned d = d.owner ≡ Some (unwrap_or d.owner 0)

-- a name stands in no state
abbrev pub IsFree : Declared → Type 0
IsFree d = d.owner ≡ None

-- states stand in their parents, junctions in states, and events and data in none
pub record AreTables (tree : Tree) (states junctions events vars : List Declared) : Type 0 where
  pub parents : owners_in states ≡ tree.parents
  pub owned : AllByRecursion IsOwned junctions
  pub free_events : AllByRecursion IsFree events
  pub free_vars : AllByRecursion IsFree vars
