-- Words for the parts of acceptance.
use Rattle.std.specs.Prelude.{◌≡◌, ◌<◌, ◌≤◌, ℕ, List, [], ◌∷◌, ◌++◌, length}
use Rattle.std.specs.Prelude.{map, Option, Some, Bool, true, false, not, ◌&&◌}
use Rattle.std.specs.Prelude.{is_some, is_none, nat_eq, nat_le, unwrap_or, slice_index_or}
use Rattle.std.specs.Borrow.{Bor}
use Rattle.std.specs.List.{list_all, list_any}
use Rattle.std.specs.Option.{option_eq}
use Rattle.std.specs.Str.{bytes_eq}
use Rattle.flow_base.specs.Names.{are_distinct}
use Rattle.flow_base.specs.Lists.{items_of}
use Rattle.flow_base.specs.declared.list.List.{List as Seq}
use Rattle.flow_base.specs.declared.chart_limits.TheConstants.{STATE_LIMIT, STATE_DEPTH_LIMIT, VARIABLE_LIMIT}
use Rattle.flow_base.specs.declared.chart_limits.TheConstants.{EVENT_LIMIT}
use Rattle.active_config.specs.declared.comp.Comp.{Comp}
use Rattle.active_config.specs.Tree.{Tree, IsTree, state_count, children_of, ancestors}
use Rattle.actions.specs.declared.names.EventDecl.{EventDecl}
use Rattle.actions.specs.declared.names.Sort.{Sort}
use Rattle.actions.specs.declared.names.Sort.TheVariants.{Flag, Number}
use Rattle.actions.specs.declared.names.Var.{Var}
use Rattle.actions.specs.Data.{is_mantissa_of}
use Rattle.chart_lexer.specs.Words.{is_name}
use Rattle.fixed_point.specs.declared.fitting.Mode.{Mode}
use Rattle.fixed_point.specs.declared.fitting.Mode.TheVariants.{Saturate, Wrap, Error}
use Rattle.code_language.specs.declared.code.RawCode.{RawCode}
use Rattle.code_language.specs.declared.code.RawState.{RawState}
use Rattle.code_language.specs.declared.fault.CodeEnd.{CodeEnd}
use Rattle.code_language.specs.declared.fault.CodeEnd.TheVariants as ends
use Rattle.code_language.specs.declared.fault.CodeFault.{CodeFault}
use Rattle.code_language.specs.declared.instr.Instr.{Instr}
use Rattle.code_language.specs.Code.{instrs_of, tree_of_states}
use Rattle.code_language.specs.Instrs as code

-- the end that a fault makes which was looked for and found; memory may have run out instead
abbrev pub IsEndOf : Option CodeFault → CodeEnd → Type 0
IsEndOf found (ends.Fault fault) = found ≡ Some fault
IsEndOf found ends.Memory = Unit {0}

-- the procedures that are written
abbrev pub procs_of : List (Seq Instr) → List (List code.Instr)
procs_of procs = map (λ is. instrs_of (items_of is)) procs

-- no state is too deep
abbrev pub IsShallow : Tree → Type 0
IsShallow t = (s : ℕ) → s < state_count t → length (ancestors t s) ≤ STATE_DEPTH_LIMIT

-- the name of a state, of those that are written
abbrev pub written_name : List RawState → ℕ → List ℕ
written_name states s = slice_index_or (map (λ (x : RawState). x.name) states) s []

-- no name stands twice among the children of a state
abbrev pub HasSiblings : List RawState → Type 0
HasSiblings states = (s : ℕ) → s < state_count (tree_of_states states)
    → are_distinct (map (written_name states) (children_of (tree_of_states states) s)) ≡ true

-- the states are a tree, none is too deep, and siblings have different names
pub record AreStates (states : List RawState) : Type 0 where
  pub tree : IsTree (tree_of_states states)
  pub depth : IsShallow (tree_of_states states)
  pub siblings : HasSiblings states

-- so many states, data and events are few enough
abbrev pub are_few : ℕ → ℕ → ℕ → Bool
are_few states vars events =
    nat_le states STATE_LIMIT && (nat_le vars VARIABLE_LIMIT && nat_le events EVENT_LIMIT)

-- a name, with the state in which it stands, if it stands in one
pub record Named : Type 0 where
  pub owner : Option ℕ
  pub name : List ℕ

-- a name in that state
abbrev pub named : Option ℕ → List ℕ → Named
named owner name = record { owner = owner; name = name }

-- the same name in the same state
abbrev pub is_same : Named → Named → Bool
is_same a b = option_eq nat_eq a.owner b.owner && bytes_eq a.name b.name

-- a name that was seen
abbrev pub named_of : Option ℕ × Bor (List ℕ) → Named
named_of key = named key.0 key.1.now

-- the names of data and events
abbrev pub names_of_both : List Var → List EventDecl → List (List ℕ)
names_of_both vars events = map (λ (v : Var). v.name) vars ++ map (λ (e : EventDecl). e.name) events

-- every name is a NAME
abbrev pub are_names : List RawState → List Var → List EventDecl → Bool
are_names states vars events =
    list_all (λ (s : RawState). is_name s.name) states
    && (list_all (λ (v : Var). is_name v.name) vars && list_all (λ (e : EventDecl). is_name e.name) events)

-- the mode of a flag
abbrev pub is_flag_mode : Sort → Mode → Bool
is_flag_mode Flag Saturate = true
is_flag_mode Flag Wrap = false
is_flag_mode Flag Error = false
is_flag_mode (Number scale) mode = true

-- the first value of a datum is of its sort, and a flag has no mode of its own
abbrev pub has_value : Var → Bool
has_value v = is_mantissa_of v.sort v.init && is_flag_mode v.sort v.mode

-- what is declared keeps to all of a table that is neither about the tree of states nor about names that stand twice
abbrev pub is_declared : RawCode → Bool
is_declared raw =
    are_few (length (items_of raw.states)) (length (items_of raw.vars)) (length (items_of raw.events))
    && (are_names (items_of raw.states) (items_of raw.vars) (items_of raw.events)
    && list_all has_value (items_of raw.vars))

-- the first state has no parent, and every other one has one
abbrev pub has_parents : List RawState → Bool
has_parents [] = false
has_parents (first ∷ rest) = is_none first.parent && list_all (λ (s : RawState). is_some s.parent) rest

-- the parent of a state, 0 where it has none
abbrev pub parent_or_0 : RawState → ℕ
parent_or_0 s = unwrap_or s.parent 0

-- how a state is composed
abbrev pub comp_written : RawState → Comp
comp_written s = s.comp

-- no name stands again among those after it in the same state
abbrev pub all_differ : List Named → Bool
all_differ [] = true
all_differ (x ∷ later) = not (list_any (λ y. is_same y x) later) && all_differ later

-- the name of a state, which stands in its parent
abbrev pub state_named : RawState → Named
state_named s = named s.parent s.name

-- no two states have the same parent and the same name
abbrev pub has_no_twins : List RawState → Bool
has_no_twins states = all_differ (map state_named states)
