-- The C of an operator on numbers, where the operator has a sort.
use Rattle.std.proofs.Common.{◌≡◌, ℕ, ◌+◌, ◌-◌, ◌^◌, ◌<◌, ◌≤◌, max, ℤ, ◌+ℤ◌, ◌-ℤ◌, ◌*ℤ◌, neg_ℤ, unsigned_abs, int_cmp}
use Rattle.std.proofs.Common.{is_eq, is_lt, is_le, is_gt, is_ge, Ok, arith}
use Rattle.std.proofs.lemmas.Int.{ints}
use Rattle.fixed_point.specs.declared.num.Num.{Num}
use Rattle.fixed_point.specs.Numbers.{scaled, common_frac, dividend_of}
use Rattle.actions.specs.declared.sort.ExprSort.{ExprSort}
use Rattle.actions.specs.declared.sort.ExprSort.TheVariants as kinds
use Rattle.actions.specs.Sorts.{size_at, sum_sort, product_sort, quotient_sort, comparison_sort}
use Rattle.actions.proofs.MagnitudeLemmas.{size-weaker, shifted-within, scaled-within, product-within, sum-within}
use Rattle.actions.proofs.MagnitudeLemmas.{difference-within}
use Rattle.actions.proofs.OperatorLemmas.{AreSized, number_within-is, comparison_sort-is}
use Rattle.c_subset.specs.declared.trees.Width.{Width}
use Rattle.c_subset.specs.declared.trees.CType.TheVariants.{Signed}
use Rattle.c_subset.specs.declared.trees.Arithmetic.{Arithmetic}
use Rattle.c_subset.specs.declared.trees.Arithmetic.TheVariants.{Times}
use Rattle.c_subset.specs.declared.trees.Comparison.{Comparison}
use Rattle.c_subset.specs.declared.trees.Comparison.TheVariants.{IsEqual, IsBelow, IsAtMost, IsAbove}
use Rattle.c_subset.specs.Trees.{CExpr, Cast, Minus}
use Rattle.c_subset.specs.declared.trees.Comparison.TheVariants.{IsAtLeast}
use Rattle.c_subset.specs.Meaning.{bits, exact, passes, one_if, Store, Locals}
use Rattle.c_functions.specs.Translation.{brought, width_for, sum_width, sum_c, product_c, comparison_width}
use Rattle.c_functions.specs.Translation.{comparison_c, quotient_width, dividend_c}
use Rattle.c_functions.specs.Claims.{Has}
use Rattle.c_functions.proofs.TranslationRoom.{width_for-room}
use Rattle.c_functions.proofs.TranslationOperators.{Roomy, has_roomy, cast-roomy, calc-roomy, compare-has, minus-has}
use Rattle.c_functions.proofs.TranslationOperators.{brought-roomy}

-- ---- comparisons of whole numbers

pub equal_passes : (x y : ℤ) → is_eq (int_cmp x y) ≡ passes IsEqual x y
equal_passes x y = grind (arith, ints)

pub below_passes : (x y : ℤ) → is_lt (int_cmp x y) ≡ passes IsBelow x y
below_passes x y = grind (arith, ints)

pub at_most_passes : (x y : ℤ) → is_le (int_cmp x y) ≡ passes IsAtMost x y
at_most_passes x y = grind (arith, ints)

pub above_passes : (x y : ℤ) → is_gt (int_cmp x y) ≡ passes IsAbove x y
above_passes x y = grind (arith, ints)

pub at_least_passes : (x y : ℤ) → is_ge (int_cmp x y) ≡ passes IsAtLeast x y
at_least_passes x y = grind (arith, ints)

-- ---- both sides at the greater fraction

-- both sides in a type with room for numbers of that size
record AreBrought (int : Width) (s : Store) (l : Locals) (w : Width) (size : ℕ) (a b : Num)
    (ea eb : CExpr) : Type 0 where
  left : Roomy int s l size (brought w (common_frac a b - a.frac) ea) (scaled a (common_frac a b))
  right : Roomy int s l size (brought w (common_frac a b - b.frac) eb) (scaled b (common_frac a b))
  left_small : unsigned_abs (scaled a (common_frac a b)) ≤ 2 ^ size
  right_small : unsigned_abs (scaled b (common_frac a b)) ≤ 2 ^ size

are_brought : (int : Width) (s : Store) (l : Locals) (w : Width) (size ma mb : ℕ) (a b : Num) (ea eb : CExpr)
    → size + 1 < bits w → size_at (common_frac a b) a.frac ma ≤ size → size_at (common_frac a b) b.frac mb ≤ size
    → AreSized a b ma mb → Has int s l ea a.mantissa → Has int s l eb b.mantissa
    → AreBrought int s l w size a b ea eb
are_brought int s l w size ma mb a b ea eb room left right sized ha hb = record {
  left = brought-roomy int s l w ma size (common_frac a b - a.frac) ea a.mantissa room left sized.left ha;
  right = brought-roomy int s l w mb size (common_frac a b - b.frac) eb b.mantissa room right sized.right hb;
  left_small = size-weaker _ (ma + (common_frac a b - a.frac)) size
      (shifted-within a.mantissa (common_frac a b - a.frac) ma sized.left) left;
  right_small = size-weaker _ (mb + (common_frac a b - b.frac)) size
      (shifted-within b.mantissa (common_frac a b - b.frac) mb sized.right) right;
}

-- ---- operators

pub comparison-has : (int : Width) (s : Store) (l : Locals) (op : Comparison) (a b : Num) (ma mb : ℕ) (ea eb : CExpr)
    (sort : ExprSort) → AreSized a b ma mb → comparison_sort a.frac ma b.frac mb ≡ Ok sort
    → Has int s l ea a.mantissa → Has int s l eb b.mantissa
    → Has int s l (comparison_c op a.frac ma b.frac mb ea eb)
    (one_if (passes op (scaled a (common_frac a b)) (scaled b (common_frac a b))))
comparison-has int s l op a b ma mb ea eb sort sized e ha hb =
    let size = max (size_at (common_frac a b) a.frac ma) (size_at (common_frac a b) b.frac mb) in
    let most = (comparison_sort-is a b ma mb sort e).0 in
    let both = are_brought int s l (comparison_width a.frac ma b.frac mb) size ma mb a b ea eb
    (width_for-room size most) (omega arith) (omega arith) sized ha hb in
    compare-has int s l op size _ _ _ _ both.left both.right both.left_small both.right_small

-- the size of a sum, and one less, for its operands
pub sum-has : (int : Width) (s : Store) (l : Locals) (op : Arithmetic) (a b : Num) (ma mb : ℕ) (ea eb : CExpr)
    (sort : ExprSort) → AreSized a b ma mb → sum_sort a.frac ma b.frac mb ≡ Ok sort
    → unsigned_abs (exact op (scaled a (common_frac a b)) (scaled b (common_frac a b)))
    ≤ 2 ^ (1 + max (size_at (common_frac a b) a.frac ma) (size_at (common_frac a b) b.frac mb))
    → Has int s l ea a.mantissa → Has int s l eb b.mantissa
    → Has int s l (sum_c op a.frac ma b.frac mb ea eb)
    (exact op (scaled a (common_frac a b)) (scaled b (common_frac a b)))
sum-has int s l op a b ma mb ea eb sort sized e small ha hb =
    let size = 1 + max (size_at (common_frac a b) a.frac ma) (size_at (common_frac a b) b.frac mb) in
    let most = (number_within-is (common_frac a b) size sort e).1 in
    let both = are_brought int s l (sum_width a.frac ma b.frac mb) size ma mb a b ea eb (width_for-room size most)
    (omega arith) (omega arith) sized ha hb in
    has_roomy int s l size _ _
    (calc-roomy int s l op size _ _ _ _ both.left both.right both.left_small both.right_small small)

-- sums and differences of numbers at one fraction
pub sum-small : (a b : Num) (ma mb : ℕ) → AreSized a b ma mb
    → unsigned_abs (scaled a (common_frac a b) +ℤ scaled b (common_frac a b))
    ≤ 2 ^ (1 + max (size_at (common_frac a b) a.frac ma) (size_at (common_frac a b) b.frac mb))
sum-small a b ma mb sized =
    let frac = common_frac a b in
    sum-within (scaled a frac) (scaled b frac) _
    (size-weaker _ (size_at frac a.frac ma) _ (scaled-within a frac ma sized.left) (omega arith))
    (size-weaker _ (size_at frac b.frac mb) _ (scaled-within b frac mb sized.right) (omega arith))

pub difference-small : (a b : Num) (ma mb : ℕ) → AreSized a b ma mb
    → unsigned_abs (scaled a (common_frac a b) -ℤ scaled b (common_frac a b))
    ≤ 2 ^ (1 + max (size_at (common_frac a b) a.frac ma) (size_at (common_frac a b) b.frac mb))
difference-small a b ma mb sized =
    let frac = common_frac a b in
    difference-within (scaled a frac) (scaled b frac) _
    (size-weaker _ (size_at frac a.frac ma) _ (scaled-within a frac ma sized.left) (omega arith))
    (size-weaker _ (size_at frac b.frac mb) _ (scaled-within b frac mb sized.right) (omega arith))

pub product-has : (int : Width) (s : Store) (l : Locals) (a b : Num) (ma mb : ℕ) (ea eb : CExpr)
    (sort : ExprSort) → AreSized a b ma mb → product_sort a.frac ma b.frac mb ≡ Ok sort
    → Has int s l ea a.mantissa → Has int s l eb b.mantissa
    → Has int s l (product_c ma mb ea eb) (a.mantissa *ℤ b.mantissa)
product-has int s l a b ma mb ea eb sort sized e ha hb =
    let size = ma + mb in
    let most = (number_within-is (a.frac + b.frac) size sort e).1 in
    let room = width_for-room size most in
    let left = size-weaker _ ma size sized.left (omega arith) in
    let right = size-weaker _ mb size sized.right (omega arith) in
    has_roomy int s l size _ _ (calc-roomy int s l Times size _ _ _ _
    (cast-roomy int s l (width_for size) size ea a.mantissa room left ha)
    (cast-roomy int s l (width_for size) size eb b.mantissa room right hb) left right
    (product-within a.mantissa b.mantissa ma mb sized.left sized.right))

-- the dividend of a quotient
pub dividend-has : (int : Width) (s : Store) (l : Locals) (a b : Num) (ma mb : ℕ) (ea : CExpr) (sort : ExprSort)
    → AreSized a b ma mb → quotient_sort a.frac ma b.frac mb ≡ Ok sort → mb ≤ 100 → Has int s l ea a.mantissa
    → Has int s l (dividend_c (kinds.Number a.frac ma) (kinds.Number b.frac mb) ea) (dividend_of a b)
dividend-has int s l a b ma mb ea sort sized e most_right ha =
    let own = size_at (common_frac a b) a.frac ma + b.frac in
    let size = max own mb in
    let most = (number_within-is (common_frac a b) own sort e).1 in
    let w = quotient_width a.frac ma b.frac mb in
    let room = width_for-room size (omega arith) in
    let d = (common_frac a b - a.frac) + b.frac in
    has_roomy int s l size _ _ (brought-roomy int s l w ma size d ea a.mantissa room (omega arith) sized.left ha)

pub negation-has : (int : Width) (s : Store) (l : Locals) (size : ℕ) (e : CExpr) (z : ℤ) → size ≤ 100
    → unsigned_abs z ≤ 2 ^ size → Has int s l e z → Has int s l (Minus (Cast (Signed (width_for size)) e)) (neg_ℤ z)
negation-has int s l size e z most small has =
    minus-has int s l size _ z (cast-roomy int s l (width_for size) size e z (width_for-room size most) small has) small
