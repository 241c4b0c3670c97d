-- The C of an operator on values of sorts that it takes.
use Rattle.std.proofs.Common.{◌≡◌, ℕ, ◌^◌, ◌≤◌, unsigned_abs, Bool, true, false, not, Ok, refl, sym, ap, ◌∙◌, subst}
use Rattle.fixed_point.specs.declared.num.Num.{Num}
use Rattle.fixed_point.specs.Numbers.{scaled, common_frac, sum_of, difference_of, product_of}
use Rattle.actions.specs.declared.expr.Op.{Op}
use Rattle.actions.specs.declared.expr.Op.TheVariants as ops
use Rattle.actions.specs.declared.expr.Value.{Value}
use Rattle.actions.specs.declared.expr.Value.TheVariants as values
use Rattle.actions.specs.declared.sort.ExprSort.{ExprSort}
use Rattle.actions.specs.declared.sort.ExprSort.TheVariants as kinds
use Rattle.actions.specs.Sorts.{IsNarrow, binary_sort}
use Rattle.actions.specs.Values.{HasSort, applied, same_flag}
use Rattle.actions.proofs.OperatorLemmas.{AreSized}
use Rattle.c_subset.specs.declared.trees.Width.{Width}
use Rattle.c_subset.specs.declared.trees.Width.TheVariants.{W8, W16, W32, W64, W128}
use Rattle.c_subset.specs.declared.trees.CType.{CType}
use Rattle.c_subset.specs.declared.trees.CType.TheVariants.{Signed, Truth}
use Rattle.c_subset.specs.declared.trees.Arithmetic.TheVariants.{Plus, Less}
use Rattle.c_subset.specs.declared.trees.Comparison.{Comparison}
use Rattle.c_subset.specs.declared.trees.Comparison.TheVariants.{IsEqual}
use Rattle.c_subset.specs.Trees.{CExpr, Cast, Compare}
use Rattle.c_subset.specs.declared.trees.Comparison.TheVariants.{IsUnequal, IsBelow, IsAtMost, IsAbove, IsAtLeast}
use Rattle.c_subset.specs.Meaning.{Meaning, with_meaning, gives, converted, as_signed, compared, passes, truth, one_if}
use Rattle.c_subset.specs.Meaning.{Store, Locals, meaning, common}
use Rattle.c_functions.specs.Translation.{operator_c, numbers_c, flags_c}
use Rattle.c_functions.specs.Claims.{Has, shown}
use Rattle.c_subset.proofs.TypeLemmas.{truth-stays}
use Rattle.c_functions.proofs.TranslationRoom.{one-stays}
use Rattle.c_functions.proofs.TranslationNumbers.{equal_passes, below_passes, at_most_passes, above_passes, at_least_passes}
use Rattle.c_functions.proofs.TranslationNumbers.{comparison-has, sum-has, sum-small, difference-small, product-has}

-- ---- a number's sort, with the number's own fraction

pub record IsSortOf (s : ExprSort) (n : Num) : Type 0 where
  pub size : ℕ
  pub is : s ≡ kinds.Number n.frac size
  pub few : size ≤ 100
  pub small : unsigned_abs n.mantissa ≤ 2 ^ size

pub number_sort : (s : ExprSort) (n : Num) → IsNarrow s → HasSort s (values.Number n) → IsSortOf s n
number_sort kinds.Flag n narrow has = absurd has
number_sort (kinds.Number frac size) n narrow has = record {
  size = size;
  is = ap (λ (f : ℕ). kinds.Number f size) (sym has.0);
  few = narrow.1;
  small = has.1;
}

pub flag_sort : (s : ExprSort) (b : Bool) → HasSort s (values.Flag b) → s ≡ kinds.Flag
flag_sort kinds.Flag b has = refl
flag_sort (kinds.Number frac size) b has = absurd has

-- ---- flags

truth_cast : (int : Width) (s : Store) (l : Locals) (e : CExpr) (b : Bool) → Has int s l e (one_if b)
    → meaning int s l (Cast Truth e) ≡ gives Truth (one_if b)
unfolding meaning
truth_cast int s l e b has =
    ap (λ (m : Meaning). with_meaning m (λ x. converted Truth x.value)) has.1
    ∙ ap (λ (c : Bool). gives Truth (one_if c)) (truth-stays b)

common-int : (int : Width) → common int Truth Truth ≡ Signed int
common-int W8 = refl
common-int W16 = refl
common-int W32 = refl
common-int W64 = refl
common-int W128 = refl

-- a comparison of two flags
flags-compared : (int : Width) (op : Comparison) (a b : Bool)
    → compared int op (record { type = Truth; value = one_if a }) (record { type = Truth; value = one_if b })
    ≡ truth int (passes op (one_if a) (one_if b))
flags-compared int op a b =
    let in_type : CType → Meaning = λ t. with_meaning (converted t (one_if a))
    (λ x. with_meaning (converted t (one_if b)) (λ y. truth int (passes op x.value y.value))) in
    ap in_type (common-int int)
    ∙ ap (λ (m : Meaning). with_meaning m
    (λ x. with_meaning (as_signed int (one_if b)) (λ y. truth int (passes op x.value y.value)))) (one-stays int a)
    ∙ ap (λ (m : Meaning). with_meaning m (λ y. truth int (passes op (one_if a) y.value))) (one-stays int b)

pub flags-has : (int : Width) (s : Store) (l : Locals) (op : Comparison) (ea eb : CExpr) (a b : Bool)
    → Has int s l ea (one_if a) → Has int s l eb (one_if b)
    → Has int s l (Compare op (Cast Truth ea) (Cast Truth eb)) (one_if (passes op (one_if a) (one_if b)))
unfolding meaning
flags-has int s l op ea eb a b ha hb = (
  Signed int,
  ap (λ (m : Meaning). with_meaning m (λ x. with_meaning (meaning int s l (Cast Truth eb)) (compared int op x)))
      (truth_cast int s l ea a ha)
      ∙ ap (λ (m : Meaning). with_meaning m (compared int op (record { type = Truth; value = one_if a })))
      (truth_cast int s l eb b hb)
      ∙ flags-compared int op a b,
)

same-passes : (a b : Bool) → passes IsEqual (one_if a) (one_if b) ≡ same_flag a b
same-passes true true = refl
same-passes true false = refl
same-passes false true = refl
same-passes false false = refl

other-passes : (a b : Bool) → passes IsUnequal (one_if a) (one_if b) ≡ not (same_flag a b)
other-passes a b = ap not (same-passes a b)

-- ---- operators

-- the operator gives a value, and its C gives that one, for C that gives the operands
pub record Computes (int : Width) (s : Store) (op : Op) (left right : ExprSort) (x y : Value) : Type 0 where
  pub value : Value
  pub applied_is : applied op x y ≡ Ok value
  pub has : (l : Locals) (ea eb : CExpr) → Has int s l ea (shown x) → Has int s l eb (shown y)
      → Has int s l (operator_c op left right ea eb) (shown value)

-- both operands are always evaluated, and no fault can come
abbrev pub IsEager : Op → Type 0
IsEager ops.Or = ⊥
IsEager ops.And = ⊥
IsEager ops.Div = ⊥
IsEager other = Unit {0}

-- an operator on numbers of these sizes
numbers-compute : (int : Width) (s : Store) (op : Op) (a b : Num) (ma mb : ℕ) (sort : ExprSort) → IsEager op
    → AreSized a b ma mb → binary_sort op (kinds.Number a.frac ma) (kinds.Number b.frac mb) ≡ Ok sort
    → Computes int s op (kinds.Number a.frac ma) (kinds.Number b.frac mb) (values.Number a) (values.Number b)
numbers-compute int s ops.Or a b ma mb sort eager sized e = absurd eager
numbers-compute int s ops.And a b ma mb sort eager sized e = absurd eager
numbers-compute int s ops.Div a b ma mb sort eager sized e = absurd eager
numbers-compute int s ops.Add a b ma mb sort eager sized e = record {
  value = values.Number (sum_of a b);
  applied_is = refl;
  has = λ l ea eb ha hb. sum-has int s l Plus a b ma mb ea eb sort sized e (sum-small a b ma mb sized) ha hb;
}
numbers-compute int s ops.Sub a b ma mb sort eager sized e = record {
  value = values.Number (difference_of a b);
  applied_is = refl;
  has = λ l ea eb ha hb. sum-has int s l Less a b ma mb ea eb sort sized e (difference-small a b ma mb sized) ha hb;
}
numbers-compute int s ops.Mul a b ma mb sort eager sized e = record {
  value = values.Number (product_of a b);
  applied_is = refl;
  has = λ l ea eb ha hb. product-has int s l a b ma mb ea eb sort sized e ha hb;
}
numbers-compute int s ops.Eq a b ma mb sort eager sized e = record {
  value = _;
  applied_is = refl;
  has = λ l ea eb ha hb. subst (λ (c : Bool). Has int s l (numbers_c ops.Eq a.frac ma b.frac mb ea eb) (one_if c))
      (sym (equal_passes (scaled a (common_frac a b)) (scaled b (common_frac a b))))
      (comparison-has int s l IsEqual a b ma mb ea eb sort sized e ha hb);
}
numbers-compute int s ops.Ne a b ma mb sort eager sized e = record {
  value = _;
  applied_is = refl;
  has = λ l ea eb ha hb. subst (λ (c : Bool). Has int s l (numbers_c ops.Ne a.frac ma b.frac mb ea eb) (one_if (not c)))
      (sym (equal_passes (scaled a (common_frac a b)) (scaled b (common_frac a b))))
      (comparison-has int s l IsUnequal a b ma mb ea eb sort sized e ha hb);
}
numbers-compute int s ops.Lt a b ma mb sort eager sized e = record {
  value = _;
  applied_is = refl;
  has = λ l ea eb ha hb. subst (λ (c : Bool). Has int s l (numbers_c ops.Lt a.frac ma b.frac mb ea eb) (one_if c))
      (sym (below_passes (scaled a (common_frac a b)) (scaled b (common_frac a b))))
      (comparison-has int s l IsBelow a b ma mb ea eb sort sized e ha hb);
}
numbers-compute int s ops.Le a b ma mb sort eager sized e = record {
  value = _;
  applied_is = refl;
  has = λ l ea eb ha hb. subst (λ (c : Bool). Has int s l (numbers_c ops.Le a.frac ma b.frac mb ea eb) (one_if c))
      (sym (at_most_passes (scaled a (common_frac a b)) (scaled b (common_frac a b))))
      (comparison-has int s l IsAtMost a b ma mb ea eb sort sized e ha hb);
}
numbers-compute int s ops.Gt a b ma mb sort eager sized e = record {
  value = _;
  applied_is = refl;
  has = λ l ea eb ha hb. subst (λ (c : Bool). Has int s l (numbers_c ops.Gt a.frac ma b.frac mb ea eb) (one_if c))
      (sym (above_passes (scaled a (common_frac a b)) (scaled b (common_frac a b))))
      (comparison-has int s l IsAbove a b ma mb ea eb sort sized e ha hb);
}
numbers-compute int s ops.Ge a b ma mb sort eager sized e = record {
  value = _;
  applied_is = refl;
  has = λ l ea eb ha hb. subst (λ (c : Bool). Has int s l (numbers_c ops.Ge a.frac ma b.frac mb ea eb) (one_if c))
      (sym (at_least_passes (scaled a (common_frac a b)) (scaled b (common_frac a b))))
      (comparison-has int s l IsAtLeast a b ma mb ea eb sort sized e ha hb);
}

-- an operator on flags
flags-compute : (int : Width) (s : Store) (op : Op) (a b : Bool) (sort : ExprSort) → IsEager op
    → binary_sort op kinds.Flag kinds.Flag ≡ Ok sort
    → Computes int s op kinds.Flag kinds.Flag (values.Flag a) (values.Flag b)
flags-compute int s ops.Or a b sort eager e = absurd eager
flags-compute int s ops.And a b sort eager e = absurd eager
flags-compute int s ops.Div a b sort eager e = absurd eager
flags-compute int s ops.Eq a b sort eager e = record {
  value = values.Flag (same_flag a b);
  applied_is = refl;
  has = λ l ea eb ha hb. subst (λ (c : Bool). Has int s l (flags_c ops.Eq ea eb) (one_if c)) (same-passes a b)
      (flags-has int s l IsEqual ea eb a b ha hb);
}
flags-compute int s ops.Ne a b sort eager e = record {
  value = values.Flag (not (same_flag a b));
  applied_is = refl;
  has = λ l ea eb ha hb. subst (λ (c : Bool). Has int s l (flags_c ops.Ne ea eb) (one_if c)) (other-passes a b)
      (flags-has int s l IsUnequal ea eb a b ha hb);
}
flags-compute int s other a b sort eager e = cc

-- no operator takes a flag and a number, nor a number and a flag
pub flag-number : (op : Op) (frac size : ℕ) (sort : ExprSort) → binary_sort op kinds.Flag (kinds.Number frac size)
    ≡ Ok sort
    → ⊥
flag-number ops.Or frac size sort e = cc
flag-number op frac size sort e = cc

pub number-flag : (op : Op) (frac size : ℕ) (sort : ExprSort) → binary_sort op (kinds.Number frac size) kinds.Flag
    ≡ Ok sort
    → ⊥
number-flag ops.Or frac size sort e = cc
number-flag op frac size sort e = cc

-- an operator on values of sorts that it takes
pub computes : (int : Width) (s : Store) (op : Op) (left right sort : ExprSort) (x y : Value) → IsEager op
    → IsNarrow left → IsNarrow right → HasSort left x → HasSort right y → binary_sort op left right ≡ Ok sort
    → Computes int s op left right x y
computes int s op left right sort (values.Flag a) (values.Flag b) eager nl nr hl hr e =
    let l = flag_sort left a hl in
    let r = flag_sort right b hr in
    subst (λ (t : ExprSort). Computes int s op t right (values.Flag a) (values.Flag b)) (sym l)
    (subst (λ (t : ExprSort). Computes int s op kinds.Flag t (values.Flag a) (values.Flag b)) (sym r)
    (flags-compute int s op a b sort eager (cc (l, r, e))))
computes int s op left right sort (values.Flag a) (values.Number b) eager nl nr hl hr e =
    let r = number_sort right b nr hr in
    absurd (flag-number op b.frac r.size sort (cc (flag_sort left a hl, r.is, e)))
computes int s op left right sort (values.Number a) (values.Flag b) eager nl nr hl hr e =
    let l = number_sort left a nl hl in
    absurd (number-flag op a.frac l.size sort (cc (l.is, flag_sort right b hr, e)))
computes int s op left right sort (values.Number a) (values.Number b) eager nl nr hl hr e =
    let l = number_sort left a nl hl in
    let r = number_sort right b nr hr in
    subst (λ (t : ExprSort). Computes int s op t right (values.Number a) (values.Number b)) (sym l.is)
    (subst (λ (t : ExprSort). Computes int s op (kinds.Number a.frac l.size) t (values.Number a) (values.Number b))
    (sym r.is)
    (numbers-compute int s op a b l.size r.size sort eager (record { left = l.small; right = r.small })
    (cc (l.is, r.is, e))))
