-- States without the new words.
use Rattle.std.specs.Prelude.{ℕ, ◌+◌, suc, Bool, true, false, List, [], ◌∷◌, ◌++◌, map, Option, Some, None}
use Rattle.std.specs.Prelude.{if◌then◌else◌}
use Rattle.std.specs.List.{flat_map}
use Rattle.token_grammar.specs.declared.token.Span.{Span}
use Rattle.chart_tree.specs.declared.expr.UnWord.TheVariants.{Neg}
use Rattle.chart_tree.specs.declared.sort.InitText.{InitText}
use Rattle.chart_tree.specs.declared.sort.InitText.TheVariants as inits
use Rattle.chart_tree.specs.Trees as core
use Rattle.statechart_tree.specs.Trees.{Parts, State, StateOf, States, NoState, MoreStates}
use Rattle.statechart_meaning.specs.Names.{Home, named}
use Rattle.statechart_meaning.specs.Scope.{Declared, Frame, Calls, Scope, state_count, below_path, frame_of, home_of}
use Rattle.statechart_meaning.specs.Counting.{OnAction, ons_in, blocks_with, is_entry, is_during, is_exit}
use Rattle.statechart_meaning.specs.Statements.{expand_block}
use Rattle.statechart_meaning.specs.Transitions.{expand_list, expand_on, expand_junction}
use Rattle.statechart_meaning.specs.Declared.{Placed, scope_at, expand_var, counters_in, every_in}
use Rattle.statechart_meaning.specs.Counters.{reset, every_reset}

-- a first value as an expression
abbrev pub init_expr : InitText → core.Expr
init_expr (inits.Number false lit at) = core.Lit lit at
init_expr (inits.Number true lit at) = core.Unary Neg (core.Lit lit at) at
init_expr (inits.Flag value at) = core.Flag value at

-- the place of a first value
abbrev pub init_place : InitText → Span
init_place (inits.Number negative lit at) = at
init_place (inits.Flag value at) = at

-- a datum takes its first value; the assignment has the place of the value
abbrev pub init_stmt : core.Var → core.Stmt
init_stmt v = core.Assign (named v.name.text (init_place v.init)) (init_expr v.init)

-- The data of a state take their first values when it is entered, but not where it has history. The data of the
-- statechart have theirs from the start, and inputs can't be assigned.
abbrev pub inits_of : List (List ℕ) → Option Span → List core.Var → List core.Stmt
inits_of [] history vars = []
inits_of (x ∷ xs) None vars = map init_stmt vars
inits_of (x ∷ xs) (Some at) vars = []

-- the first values that a state gives its data
abbrev pub init_stmts : Declared → Home → Parts → List core.Stmt
init_stmts d home p = inits_of home.path p.history (map (expand_var d home) p.vars)

-- what a state does when it is entered: its counters become 0, unless they are left out; those of `every` become 0; its
-- data take their first values; then comes its entry action
abbrev pub expand_entry : Bool → Scope → Placed → List core.Stmt
expand_entry counted s x =
    (if counted then map reset (counters_in s.declared.events x) else [])
    ++ map every_reset (every_in s.declared s.calls x)
    ++ init_stmts s.declared (home_of x.frames) x.parts
    ++ expand_block s (blocks_with is_entry x.parts.actions)

-- what a state has; `first` stands before its inner transitions, and `more` behind its junctions
abbrev pub expand_parts : Bool → Scope → List core.Trans → List core.Junction → Placed → core.Parts
expand_parts counted s first more x = record {
  name = x.parts.name;
  comp = x.parts.comp;
  entry = expand_entry counted s x;
  during = expand_block s (blocks_with is_during x.parts.actions);
  exit = expand_block s (blocks_with is_exit x.parts.actions);
  history = x.parts.history;
  outer = expand_list s x.parts.outer;
  inner =
      first ++ flat_map (λ (o : OnAction). expand_on s o.at o.cases o.block) (ons_in x.parts.actions)
      ++ expand_list s x.parts.inner;
  default = expand_list s x.parts.default;
  junctions = map (expand_junction s) x.parts.junctions ++ more;
}

-- a state with these frames, its own first
abbrev pub expand_placed :
    Bool → Declared → Calls → List core.Trans → List core.Junction → List Frame → Parts → core.Parts
expand_placed counted d calls first more frames p =
    expand_parts counted (scope_at d calls frames) first more (record { frames = frames; parts = p })

abbrev mutual
  -- a state, in states with these frames, the lowest first
  pub expand_state :
      Bool → Declared → Calls → List Frame → Home → List core.Trans → List core.Junction → State → core.State
  expand_state counted d calls above home first more (StateOf p states) =
      core.StateOf (expand_placed counted d calls first more (frame_of home p states ∷ above) p)
      (expand_states counted d calls (frame_of home p states ∷ above) home.path (suc home.number) states)

  -- states below a path, where the first has that number
  pub expand_states : Bool → Declared → Calls → List Frame → List (List ℕ) → ℕ → States → core.States
  expand_states counted d calls above path n NoState = core.NoState
  expand_states counted d calls above path n (MoreStates (StateOf p states) others) =
      core.MoreStates
      (expand_state counted d calls above (record { path = below_path path p; number = n }) [] [] (StateOf p states))
      (expand_states counted d calls above path (n + state_count (StateOf p states)) others)
