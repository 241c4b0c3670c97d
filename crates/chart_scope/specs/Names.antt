-- The faults of names of a chart text.
use Rattle.std.specs.Prelude.{◌≡◌, ◌==◌, ℕ, suc, Bool, false, List, [], ◌∷◌, ◌++◌, Option, Some, None, if◌then◌else◌}
use Rattle.std.specs.Option.{option_map_or}
use Rattle.chart_tree.specs.declared.fault.FormFault.{FormFault}
use Rattle.chart_tree.specs.declared.fault.FormFault.TheVariants as faults
use Rattle.chart_tree.specs.declared.fault.FormKind.TheVariants as kinds
use Rattle.chart_tree.specs.declared.first.FaultAt.{FaultAt}
use Rattle.chart_tree.specs.declared.name.NameText.{NameText}
use Rattle.chart_tree.specs.First.{at_place}
use Rattle.chart_tree.specs.Trees.{Parts, Chart}
use Rattle.active_config.specs.Tree.{parent_of}
use Rattle.chart_places.specs.Placed.{Placed, Owned, placed_states, placed_junctions}
use Rattle.chart_places.specs.Scopes.{Scopes, JunctionName, Meaning, Event, Datum, scopes_of}
use Rattle.chart_places.specs.Scopes.{meaning_of, child_named, junction_named}
use Rattle.resolved_tree.specs.Faults.{first_of}
use Rattle.chart_scope.specs.Uses.{block_faults, list_faults}

-- ---- names that stand twice: such a name means a thing that stands before

-- the fault of a name that means another thing: an earlier one has it
abbrev pub unless_own : Bool → NameText → List FaultAt
unless_own own name = if own then [] else (at_place kinds.NameTwice name.at ∷ [])

-- the name means event n
abbrev pub means_event : ℕ → Option Meaning → Bool
means_event n None = false
means_event n (Some (Event e)) = e == n
means_event n (Some (Datum v)) = false

-- the name means datum n
abbrev pub means_datum : ℕ → Option Meaning → Bool
means_datum n None = false
means_datum n (Some (Event e)) = false
means_datum n (Some (Datum v)) = v == n

-- what was found is number n
abbrev pub is_number : ℕ → Option ℕ → Bool
is_number n found = option_map_or (λ x. x == n) found false

-- an event, the first of which has number n: an earlier event or datum has the name
abbrev pub doubled_events : Scopes → ℕ → List NameText → List FaultAt
doubled_events p n [] = []
doubled_events p n (x ∷ xs) = unless_own (means_event n (meaning_of p x.text)) x ++ doubled_events p (suc n) xs

-- a datum, the first of which has number n: an earlier event or datum has the name
abbrev pub doubled_vars : Scopes → ℕ → List NameText → List FaultAt
doubled_vars p n [] = []
doubled_vars p n (x ∷ xs) = unless_own (means_datum n (meaning_of p x.text)) x ++ doubled_vars p (suc n) xs

-- state n, with this parent if it has one: an earlier child of the parent has the name
abbrev pub doubled_state : Scopes → ℕ → Option ℕ → NameText → List FaultAt
doubled_state p n None x = []
doubled_state p n (Some parent) x = unless_own (is_number n (child_named p parent x.text)) x

-- states, the first of which has number n
abbrev pub doubled_states : Scopes → ℕ → List NameText → List FaultAt
doubled_states p n [] = []
doubled_states p n (x ∷ xs) = doubled_state p n (parent_of p.tree n) x ++ doubled_states p (suc n) xs

-- a junction, the first of which has number n: an earlier junction of the state has the name
abbrev pub doubled_junctions : Scopes → ℕ → List JunctionName → List FaultAt
doubled_junctions p n [] = []
doubled_junctions p n (o ∷ os) =
    unless_own (is_number n (junction_named p o.owner o.name.text)) o.name ++ doubled_junctions p (suc n) os

-- ---- names that are used

-- those in the actions and lists of a state
abbrev pub parts_faults : Scopes → ℕ → Parts → List FaultAt
parts_faults p s parts =
    block_faults p s parts.entry ++ block_faults p s parts.during ++ block_faults p s parts.exit
    ++ list_faults p s parts.outer ++ list_faults p s parts.inner ++ list_faults p s parts.default

-- those of states, the first of which has number s
abbrev pub used_in_states : Scopes → ℕ → List Placed → List FaultAt
used_in_states p s [] = []
used_in_states p s (x ∷ xs) = parts_faults p s x.parts ++ used_in_states p (suc s) xs

-- those of junctions; what stands in a junction stands in the state that declares it
abbrev pub used_in_junctions : Scopes → List Owned → List FaultAt
used_in_junctions p [] = []
used_in_junctions p (o ∷ os) = list_faults p o.owner o.junction.list ++ used_in_junctions p os

-- ---- all

-- the faults of names of a chart text, in no order
unfoldable pub name_faults : Chart → List FaultAt
name_faults c = let p = scopes_of c in
    doubled_events p 0 p.events ++ doubled_vars p 0 p.vars ++ doubled_states p 0 p.states
    ++ doubled_junctions p 0 p.junctions ++ used_in_states p 0 (placed_states c.root)
    ++ used_in_junctions p (placed_junctions (placed_states c.root))

-- a chart text is refused with the first fault of its names, or memory ran out
abbrev pub Refuses : Chart → FormFault → Type 0
Refuses c (faults.At kind at) = first_of (name_faults c) ≡ Some (at_place kind at)
Refuses c faults.Memory = Unit {0}
