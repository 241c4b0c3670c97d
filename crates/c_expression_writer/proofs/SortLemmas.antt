-- The operands of an expression with a sort.
use Rattle.std.proofs.Common.{◌≡◌, ◌+◌, ◌*◌, ◌<◌, ◌^◌, ℕ, Ok, Err, IsOk, refl, arith}
use Rattle.actions.specs.declared.expr.Op.{Op}
use Rattle.actions.specs.declared.sort.ExprSort.{ExprSort}
use Rattle.actions.specs.declared.sort.ExprSort.TheVariants as kinds
use Rattle.actions.specs.Exprs as exprs
use Rattle.actions.specs.Exprs.{Expr}
use Rattle.actions.specs.Sorts.{Sorted, sort_of, scope_of, with_sort, binary_sort, negative_sort, not_sort}
use Rattle.checked_chart.specs.Expressions.{operator_count}
use Rattle.c_functions.specs.Translation.{sort_in}
use Rattle.c_functions.specs.Plans.{Shape}
use Rattle.c_expression_writer.specs.Written.{sort_at}

-- what f gives has a sort only where its operand has one
first_sorted : (r : Sorted) (f : ExprSort → Sorted) → IsOk (with_sort r f) → IsOk r
first_sorted (Ok s) f h = refl
first_sorted (Err e) f h = h

-- both operands and the operator
both_sorted : (r s : Sorted) (op : Op) → IsOk (with_sort r (λ left. with_sort s (binary_sort op left)))
    → IsOk s × IsOk (binary_sort op (sort_in r) (sort_in s))
    × (sort_in (with_sort r (λ left. with_sort s (binary_sort op left))) ≡ sort_in (binary_sort op (sort_in r)
    (sort_in s)))
both_sorted (Ok l) (Ok m) op h = (refl, h, refl)
both_sorted (Ok l) (Err e) op h = cc
both_sorted (Err e) s op h = cc

-- the expression has a sort, and there are numbers for the locals that its code may set
pub record CanWrite (K : Shape) (n : ℕ) (e : Expr) : Type 0 where
  pub sorted : IsOk (sort_of (scope_of K.names) e)
  pub room : n + 2 * operator_count e < 2 ^ 32

-- what the operands of an operator have
pub record Operands (K : Shape) (n : ℕ) (op : Op) (a b : Expr) : Type 0 where
  pub left : CanWrite K n a
  pub right_sorted : IsOk (sort_of (scope_of K.names) b)
  pub own : IsOk (binary_sort op (sort_at K a) (sort_at K b))
  pub sort : sort_at K (exprs.Bin op a b) ≡ sort_in (binary_sort op (sort_at K a) (sort_at K b))

-- what an operator gives for its operands
pub operands : (K : Shape) (n : ℕ) (op : Op) (a b : Expr) → CanWrite K n (exprs.Bin op a b) → Operands K n op a b
unfolding sort_of
operands K n op a b can =
    let all = both_sorted (sort_of (scope_of K.names) a) (sort_of (scope_of K.names) b) op can.sorted in
    record {
      left = record {
        sorted = first_sorted (sort_of (scope_of K.names) a)
            (λ left. with_sort (sort_of (scope_of K.names) b) (binary_sort op left)) can.sorted;
        room = (let r = can.room in omega (arith, r));
      };
      right_sorted = all.0;
      own = all.1;
      sort = all.2;
    }

-- the operand of - can be written
pub negated_operand : (K : Shape) (n : ℕ) (a : Expr) → CanWrite K n (exprs.Neg a) → CanWrite K n a
unfolding sort_of
negated_operand K n a can = record {
  sorted = first_sorted (sort_of (scope_of K.names) a) negative_sort can.sorted;
  room = (let r = can.room in omega (arith, r));
}

-- the operand of ! can be written
pub denied_operand : (K : Shape) (n : ℕ) (a : Expr) → CanWrite K n (exprs.Not a) → CanWrite K n a
unfolding sort_of
denied_operand K n a can = record {
  sorted = first_sorted (sort_of (scope_of K.names) a) not_sort can.sorted;
  room = (let r = can.room in omega (arith, r));
}

-- the sort of a negative, and of a denied flag
negative : (r : Sorted) → IsOk (with_sort r negative_sort)
    → sort_in (with_sort r negative_sort) ≡ sort_in (negative_sort (sort_in r))
negative (Ok s) h = refl
negative (Err e) h = cc

-- the sort of - of an expression
pub negated_sort : (K : Shape) (n : ℕ) (a : Expr) → CanWrite K n (exprs.Neg a)
    → sort_at K (exprs.Neg a) ≡ sort_in (negative_sort (sort_at K a))
unfolding sort_of
negated_sort K n a can = negative (sort_of (scope_of K.names) a) can.sorted

-- ! of what has a sort is a flag
denied : (r : Sorted) → IsOk (with_sort r not_sort) → sort_in (with_sort r not_sort) ≡ kinds.Flag
denied (Ok kinds.Flag) h = refl
denied (Ok (kinds.Number frac size)) h = refl
denied (Err e) h = refl

-- the sort of ! of an expression
pub denied_sort : (K : Shape) (n : ℕ) (a : Expr) → CanWrite K n (exprs.Not a) → sort_at K (exprs.Not a) ≡ kinds.Flag
unfolding sort_of
denied_sort K n a can = denied (sort_of (scope_of K.names) a) can.sorted
