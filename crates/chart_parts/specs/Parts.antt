-- What each procedure of the code of a chart is of, in the order of their numbers.
use Rattle.std.specs.Prelude.{◌<◌, ◌^◌, ℕ, suc, List, [], ◌∷◌, ◌++◌, map, Option, Some, None}
use Rattle.active_config.specs.Tree.{Tree, state_count}
use Rattle.actions.specs.Exprs.{Expr, Stmt}
use Rattle.checked_chart.specs.declared.parts.BlockKind.TheVariants.{Entry, During, Exit}
use Rattle.checked_chart.specs.declared.parts.ListKind.{ListKind}
use Rattle.checked_chart.specs.declared.parts.ListKind.TheVariants.{Outer, Inner, Default}
use Rattle.checked_chart.specs.Chart.{Chart, Trans, list_of, junction, junction_count}
use Rattle.chart_code.specs.Ends.{below_count}
use Rattle.chart_code.specs.Orders.{ascending, descending, span}
use Rattle.chart_code.specs.ReachedJunctions.{reached}
use Rattle.chart_parts.specs.declared.part.Owner.{Owner}
use Rattle.chart_parts.specs.declared.part.Owner.TheVariants as owners
use Rattle.chart_parts.specs.declared.part.Part.{Part}
use Rattle.chart_parts.specs.declared.part.Part.TheVariants as parts
use Rattle.chart_parts.specs.declared.part.Toward.TheVariants.{Arrive, Take, Enter}
use Rattle.chart_parts.specs.declared.part.TransPart.TheVariants.{Guard, ConditionOn, ConditionBare, Action}

-- ---- the parts of transitions

-- a guard, if there is one, of the transition at place i of a list
abbrev pub guard_parts : Owner → ℕ → Option Expr → List Part
guard_parts o i None = []
guard_parts o i (Some e) = parts.Transition Guard o i ∷ []

-- a condition action that isn't empty
abbrev pub condition_parts : Owner → ℕ → List Stmt → List Part
condition_parts o i [] = []
condition_parts o i (s ∷ ss) = parts.Transition ConditionOn o i ∷ parts.Transition ConditionBare o i ∷ []

-- a transition action that isn't empty
abbrev pub action_parts : Owner → ℕ → List Stmt → List Part
action_parts o i [] = []
action_parts o i (s ∷ ss) = parts.Transition Action o i ∷ []

-- the parts of a transition
abbrev pub trans_parts : Owner → ℕ → Trans → List Part
trans_parts o i t = guard_parts o i t.guard ++ (condition_parts o i t.condition ++ action_parts o i t.action)

-- those of transitions of a list, the first of which stands at place i
unfoldable pub list_parts : Owner → ℕ → List Trans → List Part
list_parts o i [] = []
list_parts o i (t ∷ ts) = trans_parts o i t ++ list_parts o (suc i) ts

-- ---- states

-- the actions of a state
abbrev pub block_parts : ℕ → List Part
block_parts s = parts.Block s Entry ∷ parts.Block s During ∷ parts.Block s Exit ∷ []

-- a state is processed
abbrev pub process_parts : ℕ → List Part
process_parts s = parts.Process s ∷ []

module _ (c : Chart) where
  -- the parts of the transitions of a list of a state
  abbrev pub own_parts : ℕ → ListKind → List Part
  own_parts s kind = list_parts (owners.State s kind) 0 (list_of c s kind)

  -- those of its three lists
  unfoldable pub state_parts : ℕ → List Part
  state_parts s = own_parts s Outer ++ (own_parts s Inner ++ own_parts s Default)

  -- the parts of the transitions of a junction
  abbrev pub junction_parts : ℕ → List Part
  junction_parts j = list_parts (owners.Junction j) 0 (junction c j)

  -- a list of a state, and the junctions that are reached from it
  unfoldable pub search_parts : ℕ → ListKind → List Part
  search_parts s kind = parts.Search s kind ∷ map (λ j. parts.Junction s kind j) (reached c (list_of c s kind))

  -- the outer and the inner list of a state
  unfoldable pub lists_parts : ℕ → List Part
  lists_parts s = search_parts s Outer ++ search_parts s Inner

  -- what a firing in a state takes, with its default list: leaving, arriving and entering
  unfoldable pub group_parts : ℕ → List Part
  group_parts s =
      parts.Leave s ∷ parts.Exit s ∷ (span (parts.Way Arrive s) (suc s) (below_count c.tree s)
      ++ (search_parts s Default ++ (parts.Defaults s ∷ parts.Way Arrive s s
      ∷ (span (parts.Way Take s) s (suc (below_count c.tree s))
      ++ span (parts.Way Enter s) s (suc (below_count c.tree s))))))

  -- what all procedures are of, in order
  unfoldable pub parts_of : List Part
  parts_of =
      parts.EndMark ∷ (ascending block_parts (state_count c.tree)
      ++ (ascending state_parts (state_count c.tree)
      ++ (ascending junction_parts (junction_count c)
      ++ (descending group_parts (state_count c.tree)
      ++ (descending lists_parts (state_count c.tree)
      ++ descending process_parts (state_count c.tree))))))

-- ---- parts of a tree

-- the state in whose list a transition stands is one of the tree, and numbers of junctions are below 2^32
abbrev pub IsOwner : Tree → Owner → Type 0
IsOwner t (owners.State s kind) = s < state_count t
IsOwner t (owners.Junction j) = j < 2 ^ 32

-- the states of a part are those of the tree, and its other numbers are below 2^32
abbrev pub IsPart : Tree → Part → Type 0
IsPart t parts.EndMark = Unit {0}
IsPart t (parts.Block s kind) = s < state_count t
IsPart t (parts.Transition part o i) = IsOwner t o × (i < 2 ^ 32)
IsPart t (parts.Leave s) = s < state_count t
IsPart t (parts.Exit s) = s < state_count t
IsPart t (parts.Way way s d) = (s < state_count t) × (d < state_count t)
IsPart t (parts.Search s kind) = s < state_count t
IsPart t (parts.Junction s kind j) = (s < state_count t) × (j < 2 ^ 32)
IsPart t (parts.Defaults s) = s < state_count t
IsPart t (parts.Process s) = s < state_count t
