-- The chart for which a resolved chart stands: without its places, and with the first values of its data.
use Rattle.std.specs.Prelude.{ℕ, ℤ, pos, Bool, true, false, List, [], ◌∷◌, map, Option, Some, None, Result, Ok, Err}
use Rattle.std.specs.Option.{option_map, is_some}
use Rattle.fixed_point.specs.declared.num.Num.{Num}
use Rattle.fixed_point.specs.declared.reading.NumFault.{NumFault}
use Rattle.fixed_point.specs.Reading.{number_of, frac_of}
use Rattle.actions.specs.declared.expr.Op.{Op}
use Rattle.actions.specs.declared.expr.Op.TheVariants as ops
use Rattle.actions.specs.declared.expr.Value.{Value}
use Rattle.actions.specs.declared.expr.Value.TheVariants as values
use Rattle.actions.specs.declared.names.Var.{Var}
use Rattle.actions.specs.Data.{mantissa_in}
use Rattle.actions.specs.Exprs as plain
use Rattle.actions.specs.Names.{Names}
use Rattle.chart_tree.specs.declared.name.LitText.{LitText}
use Rattle.chart_tree.specs.declared.expr.UnWord.{UnWord}
use Rattle.chart_tree.specs.declared.expr.UnWord.TheVariants as unary
use Rattle.chart_tree.specs.declared.expr.BinWord.{BinWord}
use Rattle.chart_tree.specs.declared.expr.BinWord.TheVariants as binary
use Rattle.chart_tree.specs.declared.sort.InitText.{InitText}
use Rattle.chart_tree.specs.declared.sort.InitText.TheVariants as inits
use Rattle.checked_chart.specs.declared.parts.Dest.{Dest}
use Rattle.checked_chart.specs.declared.parts.Dest.TheVariants as dests
use Rattle.checked_chart.specs.Chart as charts
use Rattle.resolved_tree.specs.declared.resolved.Ref.{Ref}
use Rattle.resolved_tree.specs.declared.resolved.ResolvedDest.{ResolvedDest}
use Rattle.resolved_tree.specs.declared.resolved.ResolvedDest.TheVariants as to
use Rattle.resolved_tree.specs.Resolved.{Expr, Lit, Flag, Name, Active, Unary, Binary, Stmt, Assign, Send, Emit}
use Rattle.resolved_tree.specs.Resolved.{Guard, Trans, Junction, State, Resolved}

-- ---- expressions

-- the number that was read, and 0 where none was
abbrev pub number_or_zero : Result Num NumFault → Num
number_or_zero (Ok n) = n
number_or_zero (Err e) = record { mantissa = pos 0; frac = 0 }

-- the number of that sign that a literal denotes, or what is wrong with it
abbrev pub number_read : Bool → LitText → Result Num NumFault
number_read negative lit = number_of negative lit.units lit.places (frac_of lit.q lit.units lit.places)

-- the number of that sign that a literal denotes
unfoldable pub signed_literal : Bool → LitText → Num
signed_literal negative lit = number_or_zero (number_read negative lit)

-- the operator of a word with two operands
abbrev pub op_of : BinWord → Op
op_of binary.Or = ops.Or
op_of binary.And = ops.And
op_of binary.Eq = ops.Eq
op_of binary.Ne = ops.Ne
op_of binary.Lt = ops.Lt
op_of binary.Le = ops.Le
op_of binary.Gt = ops.Gt
op_of binary.Ge = ops.Ge
op_of binary.Add = ops.Add
op_of binary.Sub = ops.Sub
op_of binary.Mul = ops.Mul
op_of binary.Div = ops.Div

-- an expression without its places
abbrev pub plain_expr : Expr → plain.Expr
plain_expr (Lit lit at) = plain.Lit (signed_literal false lit)
plain_expr (Flag value at) = plain.Flag value
plain_expr (Name r) = plain.Read r.number
plain_expr (Active r at) = plain.Active r.number
plain_expr (Unary unary.Neg e at) = plain.Neg (plain_expr e)
plain_expr (Unary unary.Not e at) = plain.Not (plain_expr e)
plain_expr (Binary word l r at) = plain.Bin (op_of word) (plain_expr l) (plain_expr r)

-- ---- statements and transitions

-- a statement without its places
abbrev pub plain_stmt : Stmt → plain.Stmt
plain_stmt (Assign r e) = plain.Assign r.number (plain_expr e)
plain_stmt (Send r None) = plain.Send r.number
plain_stmt (Send r (Some s)) = plain.SendTo r.number s.number
plain_stmt (Emit r) = plain.Emit r.number

-- statements without their places
abbrev pub plain_block : List Stmt → List plain.Stmt
plain_block stmts = map plain_stmt stmts

-- a destination without its place
abbrev pub plain_dest : ResolvedDest → Dest
plain_dest (to.State r) = dests.State r.number
plain_dest (to.Junction r) = dests.Junction r.number

-- a transition without its places
abbrev pub plain_trans : Trans → charts.Trans
plain_trans t = record {
  event = option_map (λ (r : Ref). r.number) t.event;
  guard = option_map (λ (g : Guard). plain_expr g.expr) t.guard;
  condition = plain_block t.cond;
  action = plain_block t.act;
  dest = plain_dest t.dest;
}

-- transitions without their places
abbrev pub plain_list : List Trans → List charts.Trans
plain_list ts = map plain_trans ts

-- what a state does
abbrev pub plain_node : State → charts.Node
plain_node s = record {
  entry = plain_block s.entry;
  during = plain_block s.during;
  exit = plain_block s.exit;
  outer = plain_list s.outer;
  inner = plain_list s.inner;
  default = plain_list s.default;
  history = is_some s.history;
}

-- ---- declarations

-- the value of a first value
abbrev pub init_value : InitText → Value
init_value (inits.Number negative lit at) = values.Number (signed_literal negative lit)
init_value (inits.Flag value at) = values.Flag value

-- the mantissa, and 0 where there is none
abbrev pub mantissa_or_zero : Option ℤ → ℤ
mantissa_or_zero None = pos 0
mantissa_or_zero (Some m) = m

-- a datum with its first value
abbrev pub with_init : Var → InitText → Var
with_init v init = record v { init = mantissa_or_zero (mantissa_in v.sort (init_value init)) }

-- data with their first values
abbrev pub with_inits : List Var → List InitText → List Var
with_inits [] inits = []
with_inits (v ∷ vs) [] = v ∷ with_inits vs []
with_inits (v ∷ vs) (init ∷ inits) = with_init v init ∷ with_inits vs inits

-- what is declared, with the first values of the data
abbrev pub plain_names : Resolved → Names
plain_names r = record r.names { vars = with_inits r.names.vars r.inits }

-- the chart for which a resolved chart stands
unfoldable pub chart_of : Resolved → charts.Chart
chart_of r = record {
  tree = r.tree;
  names = plain_names r;
  nodes = map plain_node r.states;
  junctions = map (λ (j : Junction). plain_list j.list) r.junctions;
}
