-- What a valid chart is: all that the rules and the engine that runs them require of a chart.
use Rattle.std.specs.Prelude.{◌≡◌, ◌≢◌, ◌<◌, ◌≤◌, ◌++◌, ℕ, List, [], length, map, Option, Some, None, Ok, IsSomeAnd}
use Rattle.std.specs.Prelude.{slice_get, slice_index_or, true}
use Rattle.std.specs.List.{AllByRecursion, last_or, list_all}
use Rattle.flow_base.specs.Names.{are_distinct}
use Rattle.flow_base.specs.declared.chart_limits.TheConstants.{STATEMENT_LIMIT, OPERATOR_LIMIT}
use Rattle.fixed_point.specs.declared.fitting.Mode.TheVariants.{Saturate}
use Rattle.chart_lexer.specs.Words.{is_name}
use Rattle.active_config.specs.declared.comp.Comp.TheVariants.{Leaf, Or}
use Rattle.active_config.specs.Tree.{Tree, IsTree, state_count, comp_of, children_of, is_below, is_at_or_below}
use Rattle.actions.specs.declared.names.EventDecl.{EventDecl}
use Rattle.actions.specs.declared.names.EventKind.{EventKind}
use Rattle.actions.specs.declared.names.EventKind.TheVariants as events
use Rattle.actions.specs.declared.names.Sort.TheVariants.{Flag}
use Rattle.actions.specs.declared.names.Var.{Var}
use Rattle.actions.specs.declared.names.VarKind.TheVariants as vars
use Rattle.actions.specs.declared.sort.ExprSort.{ExprSort}
use Rattle.actions.specs.declared.sort.ExprSort.TheVariants as sorts
use Rattle.actions.specs.Data.{HasInits}
use Rattle.actions.specs.Exprs.{Expr, Stmt, Assign, Send, SendTo, Emit}
use Rattle.actions.specs.Names.{Names}
use Rattle.actions.specs.Sorts.{scope_of, sort_of, assignment_fault}
use Rattle.checked_chart.specs.declared.parts.Dest.{Dest}
use Rattle.checked_chart.specs.declared.parts.Dest.TheVariants.{State, Junction}
use Rattle.checked_chart.specs.declared.parts.ListKind.{ListKind}
use Rattle.checked_chart.specs.declared.parts.ListKind.TheVariants.{Outer, Inner, Default}
use Rattle.checked_chart.specs.Chart.{Chart, Node, Trans, node, list_of, junction, junction_count}
use Rattle.checked_chart.specs.Counts.{IsWithinLimits}
use Rattle.checked_chart.specs.Expressions.{LiteralsFit, operator_count}
use Rattle.checked_chart.specs.Homes.{home_of}
use Rattle.checked_chart.specs.Reached.{links_of, Reached, Meets}

-- ---- names and declarations

-- the names of the data and the events, which share one name space
abbrev pub declared_names : Names → List (List ℕ)
declared_names n = map (λ (v : Var). v.name) n.vars ++ map (λ (e : EventDecl). e.name) n.events

-- the name of a state
abbrev pub state_name : Names → ℕ → List ℕ
state_name n s = slice_index_or n.states s []

-- every name is a NAME, and none stands twice among data and events or among the children of a state
pub record HasNames (t : Tree) (n : Names) : Type 0 where
  pub states : list_all is_name n.states ≡ true
  pub declared : list_all is_name (declared_names n) ≡ true
  pub distinct : are_distinct (declared_names n) ≡ true
  pub siblings : (s : ℕ) → s < state_count t → are_distinct (map (state_name n) (children_of t s)) ≡ true

-- a flag has no mode of its own
abbrev pub HasFlagMode : Var → Type 0
HasFlagMode v = v.sort ≡ Flag → v.mode ≡ Saturate

-- ---- expressions, statements and transitions

-- literals in range and not too many operators
pub record IsExpr (e : Expr) : Type 0 where
  pub literals : LiteralsFit e
  pub operators : operator_count e ≤ OPERATOR_LIMIT

-- the datum is no input, and can be given every value of the expression
pub record CanAssign (n : Names) (v : ℕ) (e : Expr) : Type 0 where
  pub expr : IsExpr e
  pub decl : Var
  pub declared : slice_get n.vars v ≡ Some decl
  pub no_input : decl.kind ≢ vars.Input
  pub sort : ExprSort
  pub sorted : sort_of (scope_of n) e ≡ Ok sort
  pub takes : assignment_fault decl.sort sort ≡ None

-- an event of that number is declared, and of that kind
pub record IsEventOf (n : Names) (e : ℕ) (kind : EventKind) : Type 0 where
  pub decl : EventDecl
  pub declared : slice_get n.events e ≡ Some decl
  pub kind_is : decl.kind ≡ kind

-- an event that may trigger a transition: any but an output event
pub record IsTrigger (n : Names) (e : ℕ) : Type 0 where
  pub decl : EventDecl
  pub declared : slice_get n.events e ≡ Some decl
  pub no_output : decl.kind ≢ events.Output

-- a statement: sent events are local ones, and those that are emitted are output events
abbrev pub IsStmt : Chart → Stmt → Type 0
IsStmt c (Assign v e) = CanAssign c.names v e
IsStmt c (Send e) = IsEventOf c.names e events.Local
IsStmt c (SendTo e s) = IsEventOf c.names e events.Local × (s < state_count c.tree)
IsStmt c (Emit e) = IsEventOf c.names e events.Output

-- statements
abbrev pub AreStmts : Chart → List Stmt → Type 0
AreStmts c block = AllByRecursion (IsStmt c) block

-- an action: its statements, not too many
pub record IsBlock (c : Chart) (block : List Stmt) : Type 0 where
  pub stmts : AreStmts c block
  pub few : length block ≤ STATEMENT_LIMIT

-- a trigger, if there is one
abbrev pub HasTrigger : Chart → Option ℕ → Type 0
HasTrigger c None = Unit {0}
HasTrigger c (Some e) = IsTrigger c.names e

-- a guard, if there is one, is a flag
abbrev pub HasGuard : Chart → Option Expr → Type 0
HasGuard c None = Unit {0}
HasGuard c (Some g) = IsExpr g × (sort_of (scope_of c.names) g ≡ Ok sorts.Flag)

-- a destination is a junction, or a state below the root
abbrev pub IsDest : Chart → Dest → Type 0
IsDest c (State d) = (0 < d) × (d < state_count c.tree)
IsDest c (Junction j) = j < junction_count c

-- a transition
pub record IsTrans (c : Chart) (t : Trans) : Type 0 where
  pub event : HasTrigger c t.event
  pub guard : HasGuard c t.guard
  pub condition : IsBlock c t.condition
  pub action : IsBlock c t.action
  pub dest : IsDest c t.dest

-- transitions of one list
abbrev pub AreTrans : Chart → List Trans → Type 0
AreTrans c list = AllByRecursion (IsTrans c) list

-- what a state does
pub record IsNode (c : Chart) (n : Node) : Type 0 where
  pub entry : IsBlock c n.entry
  pub during : IsBlock c n.during
  pub exit : IsBlock c n.exit
  pub outer : AreTrans c n.outer
  pub inner : AreTrans c n.inner
  pub default : AreTrans c n.default

-- ---- structure

-- a list of transitions isn't empty, and its last one has neither event nor guard
abbrev pub Closes : List Trans → Type 0
Closes list = IsSomeAnd (last_or None list) (λ (t : Trans). (t.event ≡ None) × (t.guard ≡ None))

-- a state to which a list of s may lead: an outer list to one for which the home of the firing is an OR, an inner
-- list of an OR to s or a state below it, and a default list to a state strictly below s
abbrev pub MayLead : Tree → ℕ → ListKind → ℕ → Type 0
MayLead t s Outer d = comp_of t (home_of t s Outer d) ≡ Or
MayLead t s Inner d = (is_at_or_below t d s ≡ true) × (comp_of t s ≡ Or)
MayLead t s Default d = is_below t d s ≡ true

-- every transition of a list that leads to a state leads to one that it may lead to
abbrev pub LeadsWell : Tree → ℕ → ListKind → Dest → Type 0
LeadsWell t s kind (State d) = MayLead t s kind d
LeadsWell t s kind (Junction j) = Unit {0}

-- the root has children; exactly ORs have default lists; a default list, and each list of a junction reached from
-- one, ends with a transition that is always enabled; only ORs have history; and each list leads where it may
pub record HasStructure (c : Chart) : Type 0 where
  pub children : comp_of c.tree 0 ≢ Leaf
  pub no_default : (s : ℕ) → s < state_count c.tree → comp_of c.tree s ≢ Or → list_of c s Default ≡ []
  pub default : (s : ℕ) → s < state_count c.tree → comp_of c.tree s ≡ Or → Closes (list_of c s Default)
  pub junctions : (s j : ℕ) → s < state_count c.tree → Reached (links_of c) (list_of c s Default) j
      → Closes (junction c j)
  pub history : (s : ℕ) → s < state_count c.tree → (node c s).history ≡ true → comp_of c.tree s ≡ Or
  pub leads : (s : ℕ) (kind : ListKind) (list : List Trans) → s < state_count c.tree
      → Meets (links_of c) (list_of c s kind) list → AllByRecursion (λ (t : Trans). LeadsWell c.tree s kind t.dest) list

-- ---- valid charts

-- a chart that may be run: nothing that it names is missing or of a wrong kind, its structure is sound, and
-- nothing is too large
pub record IsValid (c : Chart) : Type 0 where
  pub tree : IsTree c.tree
  pub state_names : length c.names.states ≡ state_count c.tree
  pub nodes_sized : length c.nodes ≡ state_count c.tree
  pub names : HasNames c.tree c.names
  pub inits : HasInits c.names
  pub flags : AllByRecursion HasFlagMode c.names.vars
  pub root_outer : (node c 0).outer ≡ []
  pub root_exit : (node c 0).exit ≡ []
  pub nodes : AllByRecursion (IsNode c) c.nodes
  pub junctions : AllByRecursion (AreTrans c) c.junctions
  pub structure : HasStructure c
  pub limits : IsWithinLimits c
