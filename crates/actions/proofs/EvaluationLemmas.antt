-- What the values of an expression's parts are, where the expression has a sort.
use Rattle.std.proofs.Common.{◌≡◌, ℕ, ℤ, ◌^◌, ◌≤◌, true, false, List, Some, Ok, Err, IsOk, is_ok}
use Rattle.std.proofs.Common.{IfOk, if◌then◌else◌, unsigned_abs, refl, sym, ap, ◌∙◌, subst}
use Rattle.std.proofs.lemmas.Result.{IfOk-at_ok}
use Rattle.fixed_point.specs.declared.num.Num.{Num}
use Rattle.active_config.specs.Marks.{Configuration}
use Rattle.actions.specs.declared.expr.Expr as declared
use Rattle.actions.specs.declared.expr.Op.{Op}
use Rattle.actions.specs.declared.expr.Op.TheVariants as ops
use Rattle.actions.specs.declared.expr.Value.{Value}
use Rattle.actions.specs.declared.expr.Value.TheVariants as values
use Rattle.actions.specs.declared.sort.ExprSort.{ExprSort}
use Rattle.actions.specs.declared.sort.ExprSort.TheVariants as kinds
use Rattle.actions.specs.Exprs.{Expr, Lit, Flag, Read, Active, Neg, Not, Bin}
use Rattle.actions.specs.Sorts.{Scope, Sorted, IsNarrow, with_sort, negative_sort, binary_sort, of_flags, sort_of}
use Rattle.actions.specs.Values.{Valued, HasSort, with_value, applied, decides}
use Rattle.actions.specs.Values.{number_of, leaf_value, value_of, scope_at}
use Rattle.actions.specs.Data.{Datum, datum, IsValueAt}
use Rattle.actions.specs.Trees.{expr_of}
use Rattle.actions.specs.Operands.{AreOperands}
use Rattle.actions.proofs.MagnitudeLemmas.{size-weaker}
use Rattle.actions.proofs.OperandLemmas.{sort_there, applied-has_sort}
use Rattle.actions.proofs.NarrowLemmas.{sort_of-narrow}
use Rattle.actions.proofs.SortLemmas.{literal-has_sort, value-has_sort, datum-there}

-- the value has each sort that the expression has
abbrev pub HasSortOf : Scope → Expr → Value → Type 0
HasSortOf c e x = (sort : ExprSort) → sort_of c e ≡ Ok sort → HasSort sort x

-- a literal
pub literal : (c : Scope) (e : Expr) (n : Num) → e ≡ Lit n → HasSortOf c e (values.Number n)
unfolding sort_of
literal c e n is sort has = literal-has_sort n sort (subst (λ (y : Expr). sort_of c y ≡ Ok sort) is has)

-- a datum
pub datum_read : (vals : List Datum) (marks : Configuration) (e : Expr) (v : ℕ) (x : Value) → e ≡ Read v
    → IsValueAt (datum vals v).sort x → HasSortOf (scope_at vals marks) e x
unfolding sort_of
datum_read vals marks e v x is value sort has =
    let there = datum-there vals v sort (subst (λ (y : Expr). sort_of (scope_at vals marks) y ≡ Ok sort) is has) in
    value-has_sort (datum vals v).sort x sort value there.1

-- what goes on with a sort has gone through it
with_sort_there : (s : Sorted) (f : ExprSort → Sorted) (sort : ExprSort) → with_sort s f ≡ Ok sort
    → (part : ExprSort) × (s ≡ Ok part) × (f part ≡ Ok sort)
with_sort_there (Ok part) f sort e = (part, refl, e)
with_sort_there (Err fault) f sort e = cc

-- a number of a sort that has a negative
pub record IsNegatable (x : Value) : Type 0 where
  pub number : x ≡ values.Number (number_of x)
  pub small : unsigned_abs (number_of x).mantissa ≤ 2 ^ 100

-- an operand of that sort is one
negatable : (s sort : ExprSort) (x : Value) → negative_sort s ≡ Ok sort → IsNarrow s → HasSort s x → IsNegatable x
negatable kinds.Flag sort x e narrow has = cc
negatable (kinds.Number frac size) sort (values.Flag b) e narrow has = absurd has
negatable (kinds.Number frac size) sort (values.Number n) e narrow has =
    record { number = refl; small = size-weaker _ size 100 has.1 narrow.1 }

-- the operand of `-`, a part b that is read as a
pub negated : (c : Scope) (e : Expr) (a b : declared.Expr) (x : Value) → e ≡ Neg (expr_of b) → a ≡ b
    → IsOk (sort_of c e) → HasSortOf c (expr_of a) x → IsNegatable x
unfolding sort_of
negated c e a b x is read ok has =
    let whole : e ≡ Neg (expr_of a) = rw read is in
    let sort = sort_there (sort_of c (Neg (expr_of a))) (subst (λ (y : Expr). IsOk (sort_of c y)) whole ok) in
    let part = with_sort_there (sort_of c (expr_of a)) negative_sort sort.0 sort.1 in
    negatable part.0 sort.0 x part.2 (IfOk-at_ok IsNarrow part.1 (sort_of-narrow c (expr_of a))) (has part.0 part.1)

-- the sorts of both sides of an operator, with what the operator gives
record AreSorts (c : Scope) (op : Op) (a b : Expr) (sort : ExprSort) : Type 0 where
  left : ExprSort
  right : ExprSort
  left_is : sort_of c a ≡ Ok left
  right_is : sort_of c b ≡ Ok right
  given : binary_sort op left right ≡ Ok sort

-- an operator that has a sort has them
operator_sorts : (c : Scope) (op : Op) (a b : Expr) (sort : ExprSort) → sort_of c (Bin op a b) ≡ Ok sort
    → AreSorts c op a b sort
unfolding sort_of
operator_sorts c op a b sort e =
    let left = with_sort_there (sort_of c a) (λ l. with_sort (sort_of c b) (binary_sort op l)) sort e in
    let right = with_sort_there (sort_of c b) (binary_sort op left.0) sort left.2 in
    record { left = left.0; right = right.0; left_is = left.1; right_is = right.1; given = right.2 }

-- the values of both sides, which are read as these, are operands
pub operands : (c : Scope) (op : Op) (e : Expr) (a b a' b' : declared.Expr) (x y : Value)
    → e ≡ Bin op (expr_of a') (expr_of b') → a ≡ a' → b ≡ b' → IsOk (sort_of c e) → HasSortOf c (expr_of a) x
    → HasSortOf c (expr_of b) y → AreOperands op x y
operands c op e a b a' b' x y is left_read right_read ok left right =
    let whole : e ≡ Bin op (expr_of a) (expr_of b) = rw (left_read, right_read) is in
    let sort = sort_there (sort_of c (Bin op (expr_of a) (expr_of b))) (subst (λ (z : Expr). IsOk (sort_of c z)) whole ok) in
    let sides = operator_sorts c op (expr_of a) (expr_of b) sort.0 sort.1 in
    record {
      left_sort = sides.left;
      right_sort = sides.right;
      left_narrow = IfOk-at_ok IsNarrow sides.left_is (sort_of-narrow c (expr_of a));
      right_narrow = IfOk-at_ok IsNarrow sides.right_is (sort_of-narrow c (expr_of b));
      left_has = left sides.left sides.left_is;
      right_has = right sides.right sides.right_is;
      applies = ap is_ok sides.given;
    }

-- and the operator gives a value of the sort of the whole
pub operator-has_sort : (c : Scope) (op : Op) (e : Expr) (a b a' b' : declared.Expr) (x y : Value)
    → e ≡ Bin op (expr_of a') (expr_of b') → a ≡ a' → b ≡ b' → HasSortOf c (expr_of a) x → HasSortOf c (expr_of b) y
    → (sort : ExprSort) → sort_of c e ≡ Ok sort → IfOk (applied op x y) (HasSort sort)
operator-has_sort c op e a b a' b' x y is left_read right_read left right sort has =
    let whole : e ≡ Bin op (expr_of a) (expr_of b) = rw (left_read, right_read) is in
    let sides = operator_sorts c op (expr_of a) (expr_of b) sort (subst (λ (z : Expr). sort_of c z ≡ Ok sort) whole has) in
    applied-has_sort op x y sides.left sides.right sort (IfOk-at_ok IsNarrow sides.left_is (sort_of-narrow c (expr_of a)))
    (IfOk-at_ok IsNarrow sides.right_is (sort_of-narrow c (expr_of b))) (left sides.left sides.left_is) (right sides.right sides.right_is) sides.given

-- ---- an operator on two expressions without operands

-- a value that such an expression has is the value of it
leaf_value-is : (vals : List Datum) (marks : Configuration) (e : Expr) (x : Value) → leaf_value vals marks e ≡ Some x
    → value_of vals marks e ≡ Ok x
unfolding value_of
leaf_value-is vals marks (Lit n) x is = cc
leaf_value-is vals marks (Flag b) x is = cc
leaf_value-is vals marks (Read v) x is = cc
leaf_value-is vals marks (Active s) x is = cc
leaf_value-is vals marks (Neg a) x is = cc
leaf_value-is vals marks (Not a) x is = cc
leaf_value-is vals marks (Bin op a b) x is = cc

-- no operand of `&&` is a number
no_number : (left right : ExprSort) (n : Num) → IsOk (of_flags left right) → HasSort left (values.Number n) → ⊥
no_number kinds.Flag right n ok has = has
no_number (kinds.Number frac size) kinds.Flag n ok has = cc
no_number (kinds.Number frac size) (kinds.Number frac' size') n ok has = cc

-- where the left side decides, it is what the operator gives
applied-decided : (op : Op) (x y : Value) → AreOperands op x y
    → (if decides op x then Ok x else applied op x y) ≡ applied op x y
applied-decided ops.Or (values.Flag true) y are = refl
applied-decided ops.Or (values.Flag false) y are = refl
applied-decided ops.Or (values.Number n) y are = refl
applied-decided ops.And (values.Flag true) y are = refl
applied-decided ops.And (values.Flag false) y are = refl
applied-decided ops.And (values.Number n) y are = absurd (no_number are.left_sort are.right_sort n are.applies are.left_has)
applied-decided other x y are = refl

-- the value of an operator on two expressions that are read as these
pub operator_value : (vals : List Datum) (marks : Configuration) (op : Op) (e : Expr) (a b a' b' : declared.Expr)
    (x y : Value) → e ≡ Bin op (expr_of a') (expr_of b') → a ≡ a' → b ≡ b' → leaf_value vals marks (expr_of a) ≡ Some x
    → leaf_value vals marks (expr_of b) ≡ Some y → AreOperands op x y → applied op x y ≡ value_of vals marks e
unfolding value_of
operator_value vals marks op e a b a' b' x y is left_read right_read left right are =
    let whole : e ≡ Bin op (expr_of a) (expr_of b) = rw (left_read, right_read) is in
    let second = value_of vals marks (expr_of b) in
    sym (
    ap (value_of vals marks) whole
    ∙ ap (λ (v : Valued). with_value v (λ l. if decides op l then Ok l else with_value second (applied op l)))
    (leaf_value-is vals marks (expr_of a) x left)
    ∙ ap (λ (v : Valued). if decides op x then Ok x else with_value v (applied op x))
    (leaf_value-is vals marks (expr_of b) y right)
    ∙ applied-decided op x y are
    )

-- a number is read by its parts
pub number_of_parts : (l : Value) (x : Num) (m : ℤ) → l ≡ values.Number x → m ≡ x.mantissa
    → l ≡ values.Number (record { mantissa = m; frac = x.frac })
number_of_parts l x m is e = is ∙ ap (λ (z : ℤ). values.Number (record { mantissa = z; frac = x.frac })) (sym e)

-- operands that are read as these
pub same_operands : (op : Op) (l r l' r' : Value) → l ≡ l' → r ≡ r' → AreOperands op l r → AreOperands op l' r'
same_operands op l r l' r' left right are =
    subst (λ (v : Value). AreOperands op l' v) right (subst (λ (v : Value). AreOperands op v r) left are)

-- the operator gives the same for them
pub same_applied : (op : Op) (l r l' r' : Value) → l ≡ l' → r ≡ r' → applied op l' r' ≡ applied op l r
same_applied op l r l' r' left right =
    sym (ap (λ (v : Value). applied op v r) left ∙ ap (λ (v : Value). applied op l' v) right)

-- and so does its sort hold
pub same_has_sort : (c : Scope) (e : Expr) (v given : Valued) → given ≡ v
    → ((sort : ExprSort) → sort_of c e ≡ Ok sort → IfOk v (HasSort sort))
    → (sort : ExprSort) → sort_of c e ≡ Ok sort → IfOk given (HasSort sort)
same_has_sort c e v given same has sort is = subst (λ (w : Valued). IfOk w (HasSort sort)) (sym same) (has sort is)
