-- The faults of types of a resolved chart, each with its place.
use Rattle.std.specs.Prelude.{ℤ, List, [], ◌∷◌, ◌++◌, Option, Some, None, Ok, Err, slice_get}
use Rattle.std.specs.List.{flat_map}
use Rattle.token_grammar.specs.declared.token.Span.{Span}
use Rattle.actions.specs.declared.names.Sort.{Sort}
use Rattle.actions.specs.declared.names.Sort.TheVariants as sorts
use Rattle.actions.specs.declared.names.Var.{Var}
use Rattle.actions.specs.declared.names.VarKind.{VarKind}
use Rattle.actions.specs.declared.names.VarKind.TheVariants as vars
use Rattle.actions.specs.declared.names.EventDecl.{EventDecl}
use Rattle.actions.specs.declared.names.EventKind.TheVariants as events
use Rattle.actions.specs.declared.sort.ExprSort.{ExprSort}
use Rattle.actions.specs.declared.sort.ExprSort.TheVariants as gives
use Rattle.actions.specs.declared.sort.ExprFault.{ExprFault}
use Rattle.actions.specs.declared.sort.ExprFault.TheVariants as wrong
use Rattle.actions.specs.Data.{mantissa_in}
use Rattle.actions.specs.Names.{Names}
use Rattle.actions.specs.Sorts.{Scope, scope_of, Sorted, sort_of, binary_sort, negative_sort, not_sort}
use Rattle.actions.specs.Sorts.{assignment_fault}
use Rattle.chart_tree.specs.declared.fault.FormKind.{FormKind}
use Rattle.chart_tree.specs.declared.fault.FormKind.TheVariants as kinds
use Rattle.chart_tree.specs.declared.first.FaultAt.{FaultAt}
use Rattle.chart_tree.specs.declared.expr.UnWord.{UnWord}
use Rattle.chart_tree.specs.declared.expr.UnWord.TheVariants as unary
use Rattle.chart_tree.specs.declared.expr.BinWord.{BinWord}
use Rattle.chart_tree.specs.declared.sort.InitText.{InitText}
use Rattle.chart_tree.specs.declared.sort.InitText.TheVariants as inits
use Rattle.chart_tree.specs.First.{at_place}
use Rattle.resolved_tree.specs.declared.resolved.Ref.{Ref}
use Rattle.resolved_tree.specs.Resolved.{Expr, Lit, Flag, Name, Active, Unary, Binary, Stmt, Assign, Send, Emit}
use Rattle.resolved_tree.specs.Resolved.{Guard, Trans, Junction, State, Resolved}
use Rattle.resolved_tree.specs.Plain.{plain_expr, op_of, init_value}

-- ---- expressions

-- the sort of an expression, or why it has none
abbrev pub sort_at : Scope → Expr → Sorted
sort_at c e = sort_of c (plain_expr e)

-- what an operator with one operand gives for an operand of that sort
abbrev pub unary_sort : UnWord → ExprSort → Sorted
unary_sort unary.Neg = negative_sort
unary_sort unary.Not = not_sort

-- the kind of a fault of an operator or an assignment
abbrev pub kind_of : ExprFault → FormKind
kind_of wrong.Range = kinds.TypeClash
kind_of wrong.Clash = kinds.TypeClash
kind_of wrong.Wide = kinds.TooWide

-- the fault of an operator, at the operator
abbrev pub operator_fault : Sorted → Span → List FaultAt
operator_fault (Ok sort) at = []
operator_fault (Err fault) at = at_place (kind_of fault) at ∷ []

-- of an operator with one operand: where the operand has a sort, and doesn't match or is too wide
abbrev pub unary_fault : UnWord → Sorted → Span → List FaultAt
unary_fault word (Ok sort) at = operator_fault (unary_sort word sort) at
unary_fault word (Err fault) at = []

-- of an operator with two operands: where both have a sort, and don't match or are too wide
abbrev pub binary_fault : BinWord → Sorted → Sorted → Span → List FaultAt
binary_fault word (Ok left) (Ok right) at = operator_fault (binary_sort (op_of word) left right) at
binary_fault word (Ok left) (Err fault) at = []
binary_fault word (Err fault) right at = []

-- the faults of an expression: those of its operators
abbrev pub expr_faults : Scope → Expr → List FaultAt
expr_faults c (Lit lit at) = []
expr_faults c (Flag value at) = []
expr_faults c (Name v) = []
expr_faults c (Active s at) = []
expr_faults c (Unary word e at) = expr_faults c e ++ unary_fault word (sort_at c e) at
expr_faults c (Binary word l r at) =
    expr_faults c l ++ expr_faults c r ++ binary_fault word (sort_at c l) (sort_at c r) at

-- a guard that has a sort and isn't a flag: at its bracket
abbrev pub no_flag : Sorted → Span → List FaultAt
no_flag (Ok gives.Flag) at = []
no_flag (Ok (gives.Number frac size)) at = at_place kinds.TypeClash at ∷ []
no_flag (Err fault) at = []

-- the faults of a guard
abbrev pub guard_faults : Names → Option Guard → List FaultAt
guard_faults n None = []
guard_faults n (Some g) = expr_faults (scope_of n) g.expr ++ no_flag (sort_at (scope_of n) g.expr) g.at

-- ---- statements

-- a datum that is an input can't be assigned: at its name
abbrev pub to_input : VarKind → Span → List FaultAt
to_input vars.Input at = at_place kinds.AssignsInput at ∷ []
to_input vars.Output at = []
to_input vars.Local at = []

-- a value that a datum can't take, being of the other sort or too wide: at the datum's name
abbrev pub unfit : Option ExprFault → Span → List FaultAt
unfit None at = []
unfit (Some fault) at = at_place (kind_of fault) at ∷ []

-- the value of an assignment, where it has a sort, and the datum can't take it
abbrev pub unfit_value : Sort → Sorted → Span → List FaultAt
unfit_value sort (Ok given) at = unfit (assignment_fault sort given) at
unfit_value sort (Err fault) at = []

-- an assignment to a declared datum
abbrev pub assignment_faults : Option Var → Sorted → Span → List FaultAt
assignment_faults None given at = []
assignment_faults (Some v) given at = to_input v.kind at ++ unfit_value v.sort given at

-- an event that is sent and isn't local: at its name
abbrev pub unless_local : Option EventDecl → Span → List FaultAt
unless_local None at = []
unless_local (Some e) at = elim e.kind [
  | events.Input ↦ at_place kinds.EventKind at ∷ []
  | events.Local ↦ []
  | events.Output ↦ at_place kinds.EventKind at ∷ []
]

-- an event that is emitted and isn't an output event: at its name
abbrev pub unless_output : Option EventDecl → Span → List FaultAt
unless_output None at = []
unless_output (Some e) at = elim e.kind [
  | events.Input ↦ at_place kinds.EventKind at ∷ []
  | events.Local ↦ at_place kinds.EventKind at ∷ []
  | events.Output ↦ []
]

-- the faults of a statement
abbrev pub stmt_faults : Names → Stmt → List FaultAt
stmt_faults n (Assign v e) =
    expr_faults (scope_of n) e ++ assignment_faults (slice_get n.vars v.number) (sort_at (scope_of n) e) v.at
stmt_faults n (Send e s) = unless_local (slice_get n.events e.number) e.at
stmt_faults n (Emit e) = unless_output (slice_get n.events e.number) e.at

-- the faults of a block
abbrev pub block_faults : Names → List Stmt → List FaultAt
block_faults n stmts = flat_map (stmt_faults n) stmts

-- ---- transitions

-- an output event as a trigger: at its name
abbrev pub if_output : Option EventDecl → Span → List FaultAt
if_output None at = []
if_output (Some e) at = elim e.kind [
  | events.Input ↦ []
  | events.Local ↦ []
  | events.Output ↦ at_place kinds.EventKind at ∷ []
]

-- the faults of a trigger
abbrev pub trigger_faults : Names → Option Ref → List FaultAt
trigger_faults n None = []
trigger_faults n (Some e) = if_output (slice_get n.events e.number) e.at

-- the faults of a transition
abbrev pub trans_faults : Names → Trans → List FaultAt
trans_faults n t = trigger_faults n t.event ++ guard_faults n t.guard ++ block_faults n t.cond ++ block_faults n t.act

-- the faults of a list of transitions
abbrev pub list_faults : Names → List Trans → List FaultAt
list_faults n ts = flat_map (trans_faults n) ts

-- ---- first values

-- a number that isn't a value of the type: at the number
abbrev pub out_of_type : Option ℤ → Span → List FaultAt
out_of_type None at = at_place kinds.InitRange at ∷ []
out_of_type (Some m) at = []

-- a first value of the other sort, or a number that isn't a value of the type: at the first value
abbrev pub init_faults : Sort → InitText → List FaultAt
init_faults sorts.Flag (inits.Number negative lit at) = at_place kinds.TypeClash at ∷ []
init_faults sorts.Flag (inits.Flag value at) = []
init_faults (sorts.Number scale) (inits.Flag value at) = at_place kinds.TypeClash at ∷ []
init_faults (sorts.Number scale) (inits.Number negative lit at) =
    out_of_type (mantissa_in (sorts.Number scale) (init_value (inits.Number negative lit at))) at

-- the faults of the first values of data
abbrev pub inits_faults : List Var → List InitText → List FaultAt
inits_faults [] inits = []
inits_faults (v ∷ vs) [] = []
inits_faults (v ∷ vs) (init ∷ inits) = init_faults v.sort init ++ inits_faults vs inits

-- ---- charts

-- the faults of a state
abbrev pub state_faults : Names → State → List FaultAt
state_faults n s =
    block_faults n s.entry ++ block_faults n s.during ++ block_faults n s.exit
    ++ list_faults n s.outer ++ list_faults n s.inner ++ list_faults n s.default

-- the faults of types of a resolved chart, in no order
unfoldable pub type_faults : Resolved → List FaultAt
type_faults r =
    inits_faults r.names.vars r.inits ++ flat_map (state_faults r.names) r.states
    ++ flat_map (λ (j : Junction). list_faults r.names j.list) r.junctions
