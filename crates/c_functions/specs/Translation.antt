-- Which C is written for an expression of a chart.
use Rattle.std.specs.Prelude.{ℕ, ◌+◌, ◌-◌, ◌^◌, ◌==◌, nat_le, max, pos, unsigned_abs, Bool, true, false, Ok, Err}
use Rattle.std.specs.Prelude.{if◌then◌else◌, ◌&&◌}
use Rattle.actions.specs.declared.expr.Op.{Op}
use Rattle.actions.specs.declared.expr.Op.TheVariants as ops
use Rattle.actions.specs.declared.sort.ExprSort.{ExprSort}
use Rattle.actions.specs.declared.sort.ExprSort.TheVariants as kinds
use Rattle.actions.specs.Exprs as exprs
use Rattle.actions.specs.Exprs.{Expr}
use Rattle.actions.specs.Sorts.{Scope, Sorted, size_at, least_size, sort_of}
use Rattle.c_subset.specs.declared.trees.Width.{Width}
use Rattle.c_subset.specs.declared.trees.Width.TheVariants.{W32, W64, W128}
use Rattle.c_subset.specs.declared.trees.CType.{CType}
use Rattle.c_subset.specs.declared.trees.CType.TheVariants.{Signed, Truth}
use Rattle.c_subset.specs.declared.trees.Arithmetic.{Arithmetic}
use Rattle.c_subset.specs.declared.trees.Arithmetic.TheVariants.{Plus, Less, Times}
use Rattle.c_subset.specs.declared.trees.Comparison.{Comparison}
use Rattle.c_subset.specs.declared.trees.Comparison.TheVariants.{IsEqual, IsUnequal, IsBelow}
use Rattle.c_subset.specs.declared.trees.Comparison.TheVariants.{IsAtMost, IsAbove, IsAtLeast}
use Rattle.c_subset.specs.Trees.{CExpr, Const, Field, Local, Cast, Minus, Bang, Calc, Compare, Both, Either}
use Rattle.flow_base.specs.declared.fault.Fault.TheVariants.{Zero as ZeroDivisor}
use Rattle.c_functions.specs.Code.{CCode, Nothing, Then, Set, Divide, FaultIf, If}

-- the least width in which numbers of at most 2 ^ size in magnitude are computed
abbrev pub width_for : ℕ → Width
width_for size = if nat_le size 30 then W32 else (if nat_le size 62 then W64 else W128)

-- the expression in the type, with d more bits after the point
abbrev pub brought : Width → ℕ → CExpr → CExpr
brought w d e =
    if d == 0 then Cast (Signed w) e else Calc Times (Cast (Signed w) e) (Const (Signed w) (pos (2 ^ d)))

-- ---- operators on numbers of these fractions and sizes

-- a sum is computed where it has room: one bit more than the greater operand at the common fraction
abbrev pub sum_width : ℕ → ℕ → ℕ → ℕ → Width
sum_width fa ma fb mb = width_for (1 + max (size_at (max fa fb) fa ma) (size_at (max fa fb) fb mb))

-- a + b or a - b, both brought to the common fraction
abbrev pub sum_c : Arithmetic → ℕ → ℕ → ℕ → ℕ → CExpr → CExpr → CExpr
sum_c op fa ma fb mb a b =
    let w = sum_width fa ma fb mb in Calc op (brought w (max fa fb - fa) a) (brought w (max fa fb - fb) b)

-- a * b, in a type with room for the sum of both sizes
abbrev pub product_c : ℕ → ℕ → CExpr → CExpr → CExpr
product_c ma mb a b = let w = width_for (ma + mb) in Calc Times (Cast (Signed w) a) (Cast (Signed w) b)

-- numbers are compared where the greater operand has room at the common fraction
abbrev pub comparison_width : ℕ → ℕ → ℕ → ℕ → Width
comparison_width fa ma fb mb = width_for (max (size_at (max fa fb) fa ma) (size_at (max fa fb) fb mb))

-- a < b and so on, both brought to the common fraction
abbrev pub comparison_c : Comparison → ℕ → ℕ → ℕ → ℕ → CExpr → CExpr → CExpr
comparison_c op fa ma fb mb a b =
    let w = comparison_width fa ma fb mb in Compare op (brought w (max fa fb - fa) a) (brought w (max fa fb - fb) b)

-- a quotient is computed where its dividend and its divisor have room
abbrev pub quotient_width : ℕ → ℕ → ℕ → ℕ → Width
quotient_width fa ma fb mb = width_for (max (size_at (max fa fb) fa ma + fb) mb)

-- a quotient isn't written by an operator, but by code
abbrev pub numbers_c : Op → ℕ → ℕ → ℕ → ℕ → CExpr → CExpr → CExpr
numbers_c ops.Or fa ma fb mb a b = Either a b
numbers_c ops.And fa ma fb mb a b = Both a b
numbers_c ops.Eq fa ma fb mb a b = comparison_c IsEqual fa ma fb mb a b
numbers_c ops.Ne fa ma fb mb a b = comparison_c IsUnequal fa ma fb mb a b
numbers_c ops.Lt fa ma fb mb a b = comparison_c IsBelow fa ma fb mb a b
numbers_c ops.Le fa ma fb mb a b = comparison_c IsAtMost fa ma fb mb a b
numbers_c ops.Gt fa ma fb mb a b = comparison_c IsAbove fa ma fb mb a b
numbers_c ops.Ge fa ma fb mb a b = comparison_c IsAtLeast fa ma fb mb a b
numbers_c ops.Add fa ma fb mb a b = sum_c Plus fa ma fb mb a b
numbers_c ops.Sub fa ma fb mb a b = sum_c Less fa ma fb mb a b
numbers_c ops.Mul fa ma fb mb a b = product_c ma mb a b
numbers_c ops.Div fa ma fb mb a b = a

-- an operator on two flags: == and != of their truth values
abbrev pub flags_c : Op → CExpr → CExpr → CExpr
flags_c ops.Or a b = Either a b
flags_c ops.And a b = Both a b
flags_c ops.Ne a b = Compare IsUnequal (Cast Truth a) (Cast Truth b)
flags_c other a b = Compare IsEqual (Cast Truth a) (Cast Truth b)

-- an operator on operands of these sorts
abbrev pub operator_c : Op → ExprSort → ExprSort → CExpr → CExpr → CExpr
operator_c op (kinds.Number fa ma) (kinds.Number fb mb) a b = numbers_c op fa ma fb mb a b
operator_c op (kinds.Number fa ma) kinds.Flag a b = flags_c op a b
operator_c op kinds.Flag right a b = flags_c op a b

-- `-` of a number of that sort
abbrev pub negation_c : ExprSort → CExpr → CExpr
negation_c (kinds.Number frac size) a = Minus (Cast (Signed (width_for size)) a)
negation_c kinds.Flag a = a

-- ---- an expression

-- the C of an expression: code, then an expression that reads what the code set; locals from `next` on aren't used
pub record Flat : Type 0 where
  pub code : CCode
  pub expr : CExpr
  pub next : ℕ

-- the sort, a flag where there is none
abbrev pub sort_in : Sorted → ExprSort
sort_in (Ok sort) = sort
sort_in (Err fault) = kinds.Flag

-- the width of a quotient's type
abbrev pub division_width : ExprSort → ExprSort → Width
division_width (kinds.Number fa ma) (kinds.Number fb mb) = quotient_width fa ma fb mb
division_width (kinds.Number fa ma) kinds.Flag = W32
division_width kinds.Flag right = W32

-- the dividend of a quotient, with as many bits after the point as the quotient and the divisor have
abbrev pub dividend_c : ExprSort → ExprSort → CExpr → CExpr
dividend_c (kinds.Number fa ma) (kinds.Number fb mb) a = brought (quotient_width fa ma fb mb) ((max fa fb - fa) + fb) a
dividend_c (kinds.Number fa ma) kinds.Flag a = a
dividend_c kinds.Flag right a = a

-- the test of a divisor
abbrev pub is_zero_c : CType → CExpr → CExpr
is_zero_c t e = Compare IsEqual e (Const t (pos 0))

-- a quotient: both operands' code, the divisor as a local, the fault where it is 0, the quotient as a local
abbrev pub quotient_flat : ExprSort → ExprSort → Flat → Flat → Flat
quotient_flat left right a b =
    let w = division_width left right in
    let divisor = Local (Signed w) b.next in
    record {
      code = Then a.code (Then b.code
          (Then (Set (Signed w) b.next b.expr) (Then (FaultIf ZeroDivisor (is_zero_c (Signed w) divisor))
          (Divide w (b.next + 1) (dividend_c left right a.expr) divisor))));
      expr = Local (Signed w) (b.next + 1);
      next = b.next + 2;
    }

-- there is no code in it
abbrev pub is_nothing : CCode → Bool
is_nothing Nothing = true
is_nothing (Then a b) = is_nothing a && is_nothing b
is_nothing (Set t k e) = false
is_nothing (Divide w k a b) = false
is_nothing (FaultIf x e) = false
is_nothing (If e code) = false

-- two operands that are both evaluated, without code of their own
abbrev pub eager_flat : Op → ExprSort → ExprSort → Flat → Flat → Flat
eager_flat op left right a b = record {
  code = Then a.code b.code;
  expr = operator_c op left right a.expr b.expr;
  next = b.next;
}

-- && or || whose right side has code: the left side as a local, and where it doesn't decide, the right side in its
-- place
abbrev pub lazy_flat : (CExpr → CExpr) → Flat → Flat → Flat
lazy_flat goes_on a b = record {
  code = Then a.code (Then (Set Truth b.next a.expr)
      (If (goes_on (Local Truth b.next)) (Then b.code (Set Truth b.next b.expr))));
  expr = Local Truth b.next;
  next = b.next + 1;
}

-- an operator
abbrev pub operator_flat : Op → ExprSort → ExprSort → Flat → Flat → Flat
operator_flat ops.Div left right a b = quotient_flat left right a b
operator_flat ops.And left right a b =
    if is_nothing b.code then eager_flat ops.And left right a b else lazy_flat (λ e. e) a b
operator_flat ops.Or left right a b =
    if is_nothing b.code then eager_flat ops.Or left right a b else lazy_flat Bang a b
operator_flat other left right a b = eager_flat other left right a b

-- The C of an expression over what is declared, with the tests of states, which may use locals from n on.
unfoldable pub flat : Scope → (ℕ → CExpr) → ℕ → Expr → Flat
flat c tests n (exprs.Lit x) = record {
  code = Nothing;
  expr = Const (Signed (width_for (least_size (unsigned_abs x.mantissa)))) x.mantissa;
  next = n;
}
flat c tests n (exprs.Flag b) = record { code = Nothing; expr = Const Truth (if b then pos 1 else pos 0); next = n }
flat c tests n (exprs.Read v) = record { code = Nothing; expr = Field v; next = n }
flat c tests n (exprs.Active q) = record { code = Nothing; expr = tests q; next = n }
flat c tests n (exprs.Neg a) =
    let inner = flat c tests n a in record inner { expr = negation_c (sort_in (sort_of c a)) inner.expr }
flat c tests n (exprs.Not a) = let inner = flat c tests n a in record inner { expr = Bang inner.expr }
flat c tests n (exprs.Bin op a b) =
    operator_flat op (sort_in (sort_of c a)) (sort_in (sort_of c b)) (flat c tests n a)
    (flat c tests (flat c tests n a).next b)
