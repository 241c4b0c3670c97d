-- The procedures of a chart in the order of their numbers.
use Rattle.std.specs.Prelude.{ℕ, suc, List, [], ◌∷◌, ◌++◌, map, Option, Some, None}
use Rattle.active_config.specs.Tree.{state_count}
use Rattle.actions.specs.Exprs.{Expr, Stmt}
use Rattle.checked_chart.specs.declared.parts.ListKind.{ListKind}
use Rattle.checked_chart.specs.declared.parts.ListKind.TheVariants.{Outer, Inner, Default}
use Rattle.checked_chart.specs.Chart.{Chart, Trans, list_of, junction, junction_count}
use Rattle.chart_code.specs.Orders.{ascending, descending, span}
use Rattle.chart_code.specs.Ends.{below_count}
use Rattle.chart_code.specs.ReachedJunctions.{reached}

-- what a procedure is of: a state, a state and one at or below it, a list, a junction reached from a list, or a part of
-- a transition; a condition action has two, one for lists whose state has to be active, one for those where it is bare
pub data Key : Type 0 where
  EndMark : Key
  Entry : ℕ → Key
  During : ℕ → Key
  ExitAction : ℕ → Key
  Guard : Expr → Key
  ConditionOn : List Stmt → Key
  ConditionBare : List Stmt → Key
  Action : List Stmt → Key
  Leave : ℕ → Key
  Exit : ℕ → Key
  Arrive : ℕ → ℕ → Key
  ListOf : ℕ → ListKind → Key
  JunctionOf : ℕ → ListKind → ℕ → Key
  Defaults : ℕ → Key
  Take : ℕ → ℕ → Key
  Enter : ℕ → ℕ → Key
  Process : ℕ → Key

-- ---- the parts of transitions

-- a guard, if there is one
abbrev pub guard_keys : Option Expr → List Key
guard_keys None = []
guard_keys (Some e) = Guard e ∷ []

-- a condition action that isn't empty
abbrev pub condition_keys : List Stmt → List Key
condition_keys [] = []
condition_keys (s ∷ ss) = ConditionOn (s ∷ ss) ∷ ConditionBare (s ∷ ss) ∷ []

-- a transition action that isn't empty
abbrev pub action_keys : List Stmt → List Key
action_keys [] = []
action_keys (s ∷ ss) = Action (s ∷ ss) ∷ []

-- the parts of a transition
abbrev pub trans_keys : Trans → List Key
trans_keys t = guard_keys t.guard ++ (condition_keys t.condition ++ action_keys t.action)

-- those of the transitions of a list
unfoldable pub parts_keys : List Trans → List Key
parts_keys [] = []
parts_keys (t ∷ ts) = trans_keys t ++ parts_keys ts

-- ---- states

-- the actions of a state
abbrev pub action_keys_of : ℕ → List Key
action_keys_of s = Entry s ∷ During s ∷ ExitAction s ∷ []

-- a state is processed
abbrev pub process_keys : ℕ → List Key
process_keys s = Process s ∷ []

module _ (c : Chart) where
  -- the parts of the lists of a state
  unfoldable pub state_parts_keys : ℕ → List Key
  state_parts_keys s =
      parts_keys (list_of c s Outer) ++ (parts_keys (list_of c s Inner) ++ parts_keys (list_of c s Default))

  -- the parts of a junction's list
  abbrev pub junction_parts_keys : ℕ → List Key
  junction_parts_keys j = parts_keys (junction c j)

  -- a list of a state, and the junctions that are reached from it
  unfoldable pub search_keys : ℕ → ListKind → List Key
  search_keys s kind = ListOf s kind ∷ map (λ j. JunctionOf s kind j) (reached c (list_of c s kind))

  -- the outer and the inner list of a state
  unfoldable pub lists_keys : ℕ → List Key
  lists_keys s = search_keys s Outer ++ search_keys s Inner

  -- what a firing in a state takes, with its default list: leaving, arriving and entering
  unfoldable pub group_keys : ℕ → List Key
  group_keys s =
      Leave s ∷ Exit s ∷ (span (Arrive s) (suc s) (below_count c.tree s) ++ (search_keys s Default
      ++ (Defaults s ∷ Arrive s s ∷ (span (Take s) s (suc (below_count c.tree s))
      ++ span (Enter s) s (suc (below_count c.tree s))))))

  -- ---- all procedures

  -- the actions of all states
  abbrev pub all_actions : List Key
  all_actions = ascending action_keys_of (state_count c.tree)

  -- the parts of the transitions of states
  abbrev pub all_state_parts : List Key
  all_state_parts = ascending state_parts_keys (state_count c.tree)

  -- the parts of the transitions of junctions
  abbrev pub all_junction_parts : List Key
  all_junction_parts = ascending junction_parts_keys (junction_count c)

  -- what firings take, the last state first
  abbrev pub all_groups : List Key
  all_groups = descending group_keys (state_count c.tree)

  -- outer and inner lists, the last state first
  abbrev pub all_lists : List Key
  all_lists = descending lists_keys (state_count c.tree)

  -- processing, the last state first
  abbrev pub all_processes : List Key
  all_processes = descending process_keys (state_count c.tree)

  -- all procedures in order
  unfoldable pub layout : List Key
  layout =
      EndMark ∷ (all_actions ++ (all_state_parts ++ (all_junction_parts ++ (all_groups
      ++ (all_lists ++ all_processes)))))
