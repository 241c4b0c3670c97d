-- How many states, junctions, transitions, data, events and items there are in a chart and in its
-- parts, and how many operators and parentheses in an expression.
use Rattle.std.specs.Prelude.{ℕ, ◌+◌, ◌≤◌, nat_lt, Bool, true, false, List, [], ◌∷◌, length}
use Rattle.token_grammar.specs.declared.fault.Thing.TheVariants as things
use Rattle.chart_tree.specs.Trees.{Expr, Lit, Flag, Name, Active, Unary, Binary, Stmt, Trans, Junction, Parts, State}
use Rattle.chart_tree.specs.Trees.{StateOf, States, NoState, MoreStates, Chart}
use Rattle.chart_grammar.specs.Limits.{Counts, most, after_state, after_junction, after_transition, after_event}
use Rattle.chart_grammar.specs.Limits.{after_variable}
use Rattle.chart_print.specs.Expressions.{expr_precedence, left_least, right_least, tightest}

-- ---- operators

-- a count, and one more where parentheses are put round the expression
abbrev pub enclosing : Bool → ℕ → ℕ
enclosing true operators = operators + 1
enclosing false operators = operators

-- the operators and opening parentheses in the canonical text of an expression
abbrev pub operators_in : Expr → ℕ
operators_in (Lit lit at) = 0
operators_in (Flag value at) = 0
operators_in (Name name) = 0
operators_in (Active path at) = 0
operators_in (Unary word e at) =
    enclosing (nat_lt (expr_precedence e) tightest) (operators_in e) + 1
operators_in (Binary word l r at) =
    enclosing (nat_lt (expr_precedence l) (left_least word)) (operators_in l)
    + enclosing (nat_lt (expr_precedence r) (right_least word)) (operators_in r)
    + 1

-- ---- counts

-- no things
abbrev pub none : Counts
none = record { states = 0; junctions = 0; transitions = 0; variables = 0; events = 0; items = 0 }

infixl 20 ◌⊕◌
-- the sum of two counts
abbrev pub ◌⊕◌ : Counts → Counts → Counts
n ⊕ m = record {
  states = n.states + m.states;
  junctions = n.junctions + m.junctions;
  transitions = n.transitions + m.transitions;
  variables = n.variables + m.variables;
  events = n.events + m.events;
  items = n.items + m.items;
}

-- the sum of the counts of a list
abbrev pub sizes : {X : Type 0} → (X → Counts) → List X → Counts
sizes size [] = none
sizes size (x ∷ xs) = size x ⊕ sizes size xs

-- the counts of a block
abbrev pub size_of_block : List Stmt → Counts
size_of_block stmts = record none { items = length stmts }

-- the counts of a transition, which counts itself
abbrev pub size_of_trans : Trans → Counts
size_of_trans trans =
    after_transition none ⊕ (size_of_block trans.cond ⊕ size_of_block trans.act)

-- the counts of a junction
abbrev pub size_of_junction : Junction → Counts
size_of_junction junction = after_junction none ⊕ sizes size_of_trans junction.list

-- the counts of the items of a state but for its child states
abbrev pub size_of_parts : Parts → Counts
size_of_parts parts =
    (size_of_block parts.entry ⊕ (size_of_block parts.during ⊕ size_of_block parts.exit))
    ⊕ ((sizes size_of_trans parts.default
    ⊕ (sizes size_of_trans parts.inner ⊕ sizes size_of_trans parts.outer))
    ⊕ sizes size_of_junction parts.junctions)

abbrev mutual
  -- the counts of a state
  pub size_of_state : State → Counts
  size_of_state (StateOf parts states) =
      after_state none ⊕ (size_of_parts parts ⊕ size_of_states states)

  -- the counts of states
  pub size_of_states : States → Counts
  size_of_states NoState = none
  size_of_states (MoreStates state others) = size_of_state state ⊕ size_of_states others

-- the counts of a chart
abbrev pub size_of_chart : Chart → Counts
size_of_chart chart =
    sizes (λ e. after_event none) chart.events
    ⊕ (sizes (λ v. after_variable none) chart.vars ⊕ size_of_state chart.root)

-- the counts are no more than the limits allow
pub record IsWithin (n : Counts) : Type 0 where
  pub states : n.states ≤ most things.States
  pub junctions : n.junctions ≤ most things.Junctions
  pub transitions : n.transitions ≤ most things.Transitions
  pub variables : n.variables ≤ most things.Variables
  pub events : n.events ≤ most things.Events
  pub items : n.items ≤ most things.Items
