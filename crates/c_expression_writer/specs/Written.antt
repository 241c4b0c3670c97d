-- What is written of an expression.
use Rattle.std.specs.Prelude.{◌≡◌, ℕ, List}
use Rattle.actions.specs.declared.sort.ExprSort.{ExprSort}
use Rattle.actions.specs.Exprs.{Expr}
use Rattle.actions.specs.Sorts.{scope_of, sort_of, IsNarrow}
use Rattle.c_subset.specs.Lines.{Appends, expr_of}
use Rattle.c_subset.specs.declared.trees.Line.{Line}
use Rattle.c_functions.specs.Code.{Nothing, written}
use Rattle.c_functions.specs.Translation.{Flat, flat, negation_c, sort_in, width_for}
use Rattle.c_subset.specs.Trees.{Bang}
use Rattle.c_subset.specs.declared.trees.Width.{Width}
use Rattle.c_subset.specs.declared.trees.Width.TheVariants.{W32}
use Rattle.actions.specs.declared.sort.ExprSort.TheVariants as kinds
use Rattle.c_functions.specs.Layout.{on_c}
use Rattle.c_functions.specs.Plans.{Shape, layout, helper, faulted}
use Rattle.c_expression_writer.specs.declared.operand.Operand.{Operand}

-- lines of the code
abbrev pub Lines : Type 0
Lines = List Line

-- the C of an expression that may use locals from n on
abbrev pub flat_at : Shape → ℕ → Expr → Flat
flat_at K n e = flat (scope_of K.names) (on_c K.tree (layout K) K.numbers) n e

-- the sort of an expression
abbrev pub sort_at : Shape → Expr → ExprSort
sort_at K e = sort_in (sort_of (scope_of K.names) e)

-- the width of the type of a literal of that sort
abbrev pub literal_width : ExprSort → Width
literal_width kinds.Flag = W32
literal_width (kinds.Number frac size) = width_for size

-- an operand whose code was written before
abbrev pub seen : Operand → Flat
seen x = record { code = Nothing; expr = expr_of x.expr; next = x.next }

-- `-` of an operand whose code was written before
abbrev pub negative_of : Operand → Flat
negative_of x = record (seen x) { expr = negation_c x.sort (expr_of x.expr) }

-- `!` of an operand whose code was written before
abbrev pub denial_of : Operand → Flat
denial_of x = record (seen x) { expr = Bang (expr_of x.expr) }

-- what was appended is the code, and the operand has the expression, the next local and the sort
pub record IsWritten (K : Shape) (old new : List Line) (f : Flat) (sort : ExprSort) (x : Operand) : Type 0 where
  pub lines : Appends old new (written (helper K) (faulted K) f.code)
  pub expr : expr_of x.expr ≡ f.expr
  pub next : x.next ≡ f.next
  pub sort_is : x.sort ≡ sort
  pub narrow : IsNarrow x.sort
