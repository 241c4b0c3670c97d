-- What holds of every resolved chart that comes from a chart text without faults of names.
use Rattle.std.specs.Prelude.{◌≡◌, ◌≢◌, ◌<◌, ◌≤◌, ℕ, false, List, [], length, Option, Some, None, Ok, slice_get}
use Rattle.std.specs.List.{AllByRecursion}
use Rattle.flow_base.specs.declared.chart_limits.TheConstants.{STATE_LIMIT, STATE_DEPTH_LIMIT, JUNCTION_LIMIT}
use Rattle.flow_base.specs.declared.chart_limits.TheConstants.{TRANSITION_LIMIT, VARIABLE_LIMIT, EVENT_LIMIT}
use Rattle.flow_base.specs.declared.chart_limits.TheConstants.{ITEM_LIMIT, STATEMENT_LIMIT, OPERATOR_LIMIT}
use Rattle.fixed_point.specs.declared.num.Num.{Num}
use Rattle.fixed_point.specs.declared.reading.TheConstants.{DIGIT_LIMIT}
use Rattle.fixed_point.specs.declared.scale.TheConstants.{PLACES_LIMIT}
use Rattle.active_config.specs.Tree.{IsTree, state_count, comp_of, children_of, ancestors}
use Rattle.chart_tree.specs.declared.name.LitText.{LitText}
use Rattle.chart_tree.specs.declared.sort.InitText.{InitText}
use Rattle.chart_tree.specs.declared.sort.InitText.TheVariants as inits
use Rattle.checked_chart.specs.Chart as charts
use Rattle.checked_chart.specs.Counts.{transition_count, item_count}
use Rattle.checked_chart.specs.Expressions.{operator_count}
use Rattle.checked_chart.specs.Valid.{HasNames, HasFlagMode}
use Rattle.resolved_tree.specs.declared.resolved.Ref.{Ref}
use Rattle.resolved_tree.specs.declared.resolved.ResolvedDest.{ResolvedDest}
use Rattle.resolved_tree.specs.declared.resolved.ResolvedDest.TheVariants as to
use Rattle.resolved_tree.specs.Resolved.{Expr, Lit, Flag, Name, Active, Unary, Binary, Stmt, Assign, Send, Emit}
use Rattle.resolved_tree.specs.Resolved.{Guard, Trans, Junction, State, Resolved}
use Rattle.resolved_tree.specs.Plain.{number_read, plain_expr, chart_of}

-- a condition on something optional: it holds where the thing is there
abbrev pub IfThere : {X : Type 0} → (X → Type 0) → Option X → Type 0
IfThere has None = Unit {0}
IfThere has (Some x) = has x

-- ---- numbers in range

-- an event of that number is there
abbrev pub IsEvent : Resolved → Ref → Type 0
IsEvent r e = e.number < length r.names.events

-- a datum of that number is there
abbrev pub IsDatum : Resolved → Ref → Type 0
IsDatum r v = v.number < length r.names.vars

-- a state of that number is there
abbrev pub IsState : Resolved → Ref → Type 0
IsState r s = s.number < state_count r.tree

-- a literal has at most DIGIT_LIMIT digits after the point and denotes a number with at most PLACES_LIMIT bits after
-- the point
pub record IsLiteral (lit : LitText) : Type 0 where
  pub places : lit.places ≤ DIGIT_LIMIT
  pub number : Num
  pub denoted : number_read false lit ≡ Ok number
  pub short : number.frac ≤ PLACES_LIMIT

-- the literals of an expression denote numbers, and its data and states are there
abbrev pub IsInRange : Resolved → Expr → Type 0
IsInRange r (Lit lit at) = IsLiteral lit
IsInRange r (Flag value at) = Unit {0}
IsInRange r (Name v) = IsDatum r v
IsInRange r (Active s at) = IsState r s
IsInRange r (Unary word e at) = IsInRange r e
IsInRange r (Binary word a b at) = IsInRange r a × IsInRange r b

-- an expression: with at most OPERATOR_LIMIT operators
pub record IsExpr (r : Resolved) (e : Expr) : Type 0 where
  pub in_range : IsInRange r e
  pub operators : operator_count (plain_expr e) ≤ OPERATOR_LIMIT

-- a statement
abbrev pub IsStmt : Resolved → Stmt → Type 0
IsStmt r (Assign v e) = IsDatum r v × IsExpr r e
IsStmt r (Send e s) = IsEvent r e × IfThere (IsState r) s
IsStmt r (Emit e) = IsEvent r e

-- a block: at most STATEMENT_LIMIT statements
pub record IsBlock (r : Resolved) (block : List Stmt) : Type 0 where
  pub stmts : AllByRecursion (IsStmt r) block
  pub few : length block ≤ STATEMENT_LIMIT

-- a destination is a junction, or a state below the root
abbrev pub IsDest : Resolved → ResolvedDest → Type 0
IsDest r (to.State s) = (0 < s.number) × IsState r s
IsDest r (to.Junction j) = j.number < length r.junctions

-- a transition
pub record IsTrans (r : Resolved) (t : Trans) : Type 0 where
  pub event : IfThere (IsEvent r) t.event
  pub guard : IfThere (λ (g : Guard). IsExpr r g.expr) t.guard
  pub cond : IsBlock r t.cond
  pub act : IsBlock r t.act
  pub dest : IsDest r t.dest

-- transitions of one list
abbrev pub AreTrans : Resolved → List Trans → Type 0
AreTrans r ts = AllByRecursion (IsTrans r) ts

-- what a state does
pub record IsStateOf (r : Resolved) (s : State) : Type 0 where
  pub entry : IsBlock r s.entry
  pub during : IsBlock r s.during
  pub exit : IsBlock r s.exit
  pub outer : AreTrans r s.outer
  pub inner : AreTrans r s.inner
  pub default : AreTrans r s.default

-- a first value: its literal denotes a number
abbrev pub IsInit : InitText → Type 0
IsInit (inits.Number negative lit at) = IsLiteral lit
IsInit (inits.Flag value at) = Unit {0}

-- ---- sizes

-- the counts of a chart but that of its pairs are within their limits
pub record CountsFit (c : charts.Chart) : Type 0 where
  pub states : state_count c.tree ≤ STATE_LIMIT
  pub depth : (s : ℕ) → s < state_count c.tree → length (ancestors c.tree s) ≤ STATE_DEPTH_LIMIT
  pub junctions : charts.junction_count c ≤ JUNCTION_LIMIT
  pub transitions : transition_count c ≤ TRANSITION_LIMIT
  pub vars : length c.names.vars ≤ VARIABLE_LIMIT
  pub events : length c.names.events ≤ EVENT_LIMIT
  pub items : item_count c ≤ ITEM_LIMIT

-- ---- resolved charts

-- a tree with a state for each of its numbers; names that are NAMEs and stand but once; a first value for each datum;
-- numbers in range; a word for each state with children; a root without outer transitions and exit action; and no
-- count over its limit
pub record KeepsPromise (r : Resolved) : Type 0 where
  pub tree : IsTree r.tree
  pub sized : length r.states ≡ state_count r.tree
  pub state_names : length r.names.states ≡ state_count r.tree
  pub names : HasNames r.tree r.names
  pub flags : AllByRecursion HasFlagMode r.names.vars
  pub inits_sized : length r.inits ≡ length r.names.vars
  pub inits : AllByRecursion IsInit r.inits
  pub states : AllByRecursion (IsStateOf r) r.states
  pub junctions : AllByRecursion (λ (j : Junction). AreTrans r j.list) r.junctions
  pub words : (s : ℕ) (x : State) → slice_get r.states s ≡ Some x → children_of r.tree s ≢ [] → x.word ≡ comp_of r.tree s
  pub root : (x : State) → slice_get r.states 0 ≡ Some x → (x.outer ≡ []) × (x.exit ≡ [])
  pub small : CountsFit (chart_of r)
