-- The value of an expression is one of its sort.
use Rattle.std.proofs.Common.{◌≡◌, ℕ, zero, suc, ◌^◌, ◌≤◌, ℤ, pos, negsuc, neg_ℤ, unsigned_abs, Bool, true, false}
use Rattle.std.proofs.Common.{Ok, Err, IfOk, refl, sym, subst}
use Rattle.std.proofs.lemmas.Result.{IfOk-at_ok}
use Rattle.std.specs.Prelude.{List, nat_lt, if◌then◌else◌}
use Rattle.fixed_point.specs.Numbers.{negation_of}
use Rattle.active_config.specs.Marks.{Configuration, is_on, mark_count}
use Rattle.actions.specs.declared.expr.Op.{Op}
use Rattle.actions.specs.declared.expr.Op.TheVariants as ops
use Rattle.actions.specs.declared.expr.Value.{Value}
use Rattle.actions.specs.declared.expr.Value.TheVariants as values
use Rattle.actions.specs.declared.sort.ExprFault.TheVariants as expr_faults
use Rattle.actions.specs.declared.sort.ExprSort.{ExprSort}
use Rattle.actions.specs.declared.sort.ExprSort.TheVariants as kinds
use Rattle.actions.specs.Data.{Datum, datum, value_of_datum, HaveTheirSorts}
use Rattle.actions.specs.Exprs.{Expr, Lit, Flag, Read, Active, Neg, Not, Bin}
use Rattle.actions.specs.Sorts.{Scope, Sorted, IsNarrow, with_sort, of_flags, binary_sort, negative_sort, not_sort}
use Rattle.actions.specs.Sorts.{state_sort, sort_of}
use Rattle.actions.specs.Values.{Valued, HasSort, with_value, number_of, applied, decides, value_of, scope_at}
use Rattle.actions.proofs.DataLemmas.{datum_has_sort}
use Rattle.actions.proofs.NarrowLemmas.{sort_of-narrow}
use Rattle.actions.proofs.OperandLemmas.{has_flag, applied-has_sort}
use Rattle.actions.proofs.SortLemmas.{literal-has_sort, value-has_sort, datum-there}

-- what goes on with a sort has gone through it
through : (s : Sorted) (f : ExprSort → Sorted) (sort : ExprSort) → with_sort s f ≡ Ok sort
    → (part : ExprSort) × (s ≡ Ok part) × (f part ≡ Ok sort)
through (Ok part) f sort e = (part, refl, e)
through (Err fault) f sort e = absurd cc

-- what goes on with a value has the sort, where it has for each value of the part
with_has_sort : (part sort : ExprSort) (r : Valued) (f : Value → Valued) → IfOk r (HasSort part)
    → ((x : Value) → HasSort part x → IfOk (f x) (HasSort sort)) → IfOk (with_value r f) (HasSort sort)
with_has_sort part sort (Ok x) f h t = t x h
with_has_sort part sort (Err fault) f h t = tt

-- whether a state is active is a flag
state_flag : (states s : ℕ) (sort : ExprSort) → state_sort states s ≡ Ok sort → sort ≡ kinds.Flag
state_flag states s sort e = at (nat_lt s states) e
  where
    at : (there : Bool) → (if there then Ok kinds.Flag else Err expr_faults.Range) ≡ Ok sort → sort ≡ kinds.Flag
    at true e = cc
    at false e = absurd cc

-- a negative is as large as the number
abs_neg : (m : ℤ) → unsigned_abs (neg_ℤ m) ≡ unsigned_abs m
abs_neg (pos zero) = refl
abs_neg (pos (suc n)) = refl
abs_neg (negsuc n) = refl

-- so it has the same sort
negative_has_sort : (part sort : ExprSort) (x : Value) → negative_sort part ≡ Ok sort → HasSort part x
    → HasSort sort (values.Number (negation_of (number_of x)))
negative_has_sort kinds.Flag sort x e h = absurd cc
negative_has_sort (kinds.Number frac size) sort (values.Flag b) e h = absurd h
negative_has_sort (kinds.Number frac size) sort (values.Number n) e h =
    let same : kinds.Number frac size ≡ sort = cc in
    subst (λ (s : ExprSort). HasSort s (values.Number (negation_of n))) same
    (h.0, subst (λ (a : ℕ). a ≤ 2 ^ size) (sym (abs_neg n.mantissa)) h.1)

-- the other of two flags is a flag
not_flag : (part sort : ExprSort) → not_sort part ≡ Ok sort → sort ≡ kinds.Flag
not_flag kinds.Flag sort e = cc
not_flag (kinds.Number frac size) sort e = absurd cc

-- what two flags give, they are themselves
flags_of : (left right sort : ExprSort) → of_flags left right ≡ Ok sort → left ≡ sort
flags_of kinds.Flag kinds.Flag sort e = cc
flags_of kinds.Flag (kinds.Number frac size) sort e = absurd cc
flags_of (kinds.Number frac size) kinds.Flag sort e = absurd cc
flags_of (kinds.Number frac size) (kinds.Number frac' size') sort e = absurd cc

-- where the left side decides, its value has the sort of the whole
decided : (op : Op) (left right sort : ExprSort) (x : Value) → decides op x ≡ true → binary_sort op left right ≡ Ok sort
    → HasSort left x → HasSort sort x
decided ops.Or left right sort x d e h = subst (λ (s : ExprSort). HasSort s x) (flags_of left right sort e) h
decided ops.And left right sort x d e h = subst (λ (s : ExprSort). HasSort s x) (flags_of left right sort e) h
decided other left right sort x d e h = absurd cc

-- the left side alone, or the operator on both
either_has_sort : (sort : ExprSort) (x : Value) (b : Bool) (r : Valued) → (b ≡ true → HasSort sort x)
    → IfOk r (HasSort sort) → IfOk (if b then Ok x else r) (HasSort sort)
either_has_sort sort x true r h k = h refl
either_has_sort sort x false r h k = k

module _ (vals : List Datum) (marks : Configuration) (all : HaveTheirSorts vals) where
  -- what an expression may name
  abbrev scope : Scope
  scope = scope_at vals marks

  -- the value of an expression that has a sort, if it has a value, is one of the sort
  pub value_has_sort : (e : Expr) (sort : ExprSort) → sort_of scope e ≡ Ok sort
      → IfOk (value_of vals marks e) (HasSort sort)
  unfolding sort_of value_of
  value_has_sort (Lit n) sort e = literal-has_sort n sort e
  value_has_sort (Flag b) sort e = has_flag sort b cc
  value_has_sort (Read v) sort e =
      let there = datum-there vals v sort e in
      let d = datum vals v in
      value-has_sort d.sort (value_of_datum d) sort (d.mantissa, datum_has_sort vals v all there.0, refl) there.1
  value_has_sort (Active s) sort e = has_flag sort (is_on s marks) (state_flag (mark_count marks) s sort e)
  value_has_sort (Neg a) sort e =
      let part = through (sort_of scope a) negative_sort sort e in
      with_has_sort part.0 sort (value_of vals marks a) _ (value_has_sort a part.0 part.1)
      (λ x h. negative_has_sort part.0 sort x part.2 h)
  value_has_sort (Not a) sort e =
      let part = through (sort_of scope a) not_sort sort e in
      with_has_sort part.0 sort (value_of vals marks a) _ (value_has_sort a part.0 part.1)
      (λ x h. has_flag sort _ (not_flag part.0 sort part.2))
  value_has_sort (Bin op a b) sort e =
      let left = through (sort_of scope a) (λ l. with_sort (sort_of scope b) (binary_sort op l)) sort e in
      let right = through (sort_of scope b) (binary_sort op left.0) sort left.2 in
      let left_narrow = IfOk-at_ok IsNarrow left.1 (sort_of-narrow scope a) in
      let right_narrow = IfOk-at_ok IsNarrow right.1 (sort_of-narrow scope b) in
      with_has_sort left.0 sort (value_of vals marks a) _ (value_has_sort a left.0 left.1)
      (λ x h. either_has_sort sort x (decides op x) _ (λ d. decided op left.0 right.0 sort x d right.2 h)
      (with_has_sort right.0 sort (value_of vals marks b) (applied op x) (value_has_sort b right.0 right.1)
      (λ y h'. applied-has_sort op x y left.0 right.0 sort left_narrow right_narrow h h' right.2)))
