-- What is known of the value of an expression holds.
use Rattle.std.proofs.Common.{◌≡◌, ◌+◌, ◌-◌, ◌*◌, ◌^◌, ◌≤◌, ◌<◌, ◌≤ℤ◌, ℕ, suc, max, ℤ, pos, negsuc}
use Rattle.std.proofs.Common.{◌+ℤ◌, ◌-ℤ◌}
use Rattle.std.proofs.Common.{◌*ℤ◌, neg_ℤ, unsigned_abs, Bool, true, false, not, ◌&&◌, ◌||◌, cond, int_lt, int_le, Ok}
use Rattle.std.proofs.Common.{Err}
use Rattle.std.proofs.Common.{List, refl, sym, subst, arith}
use Rattle.std.proofs.lemmas.Int.{ints}
use Rattle.std.proofs.lemmas.Nat.{mul-le}
use Rattle.std.specs.Prelude.{if◌then◌else◌, nat_eq}
use Rattle.std.specs.Ordering.{is_eq, is_lt, is_le, is_gt, is_ge, int_cmp}
use Rattle.fixed_point.specs.declared.num.Num.{Num}
use Rattle.fixed_point.specs.Numbers.{scaled, common_frac, dividend_of, floor_div, order_of, sum_of, difference_of}
use Rattle.fixed_point.specs.Numbers.{product_of, negation_of}
use Rattle.active_config.specs.Marks.{Configuration, is_on}
use Rattle.actions.specs.declared.expr.Op.{Op}
use Rattle.actions.specs.declared.expr.Op.TheVariants as ops
use Rattle.actions.specs.declared.expr.Value.{Value}
use Rattle.actions.specs.declared.expr.Value.TheVariants as values
use Rattle.actions.specs.declared.names.Sort.{Sort}
use Rattle.actions.specs.declared.names.Sort.TheVariants as sorts
use Rattle.actions.specs.Data.{Datum, datum, value_at, value_of_datum}
use Rattle.actions.specs.Exprs.{Expr, Lit, Flag, Read, Active, Neg, Not, Bin}
use Rattle.actions.specs.Values.{Valued, with_value, flag_of, number_of, applied, decides, value_of, quotient_value}
use Rattle.actions.specs.Values.{are_equal, same_flag}
use Rattle.actions.proofs.MagnitudeLemmas.{floor_div-within}
use Rattle.range_spans.specs.Narrow.{right_box}
use Rattle.range_spans.proofs.Narrowing.{right_holds}
use Rattle.std.proofs.lemmas.Nat.{le-div}
use Rattle.std.proofs.Math.Nat.{div-mul-le_self}
use Rattle.std.proofs.Common.{◌/◌}
use Rattle.fixed_point.specs.Numbers.{floor_by}
use Rattle.range_spans.specs.Known.{quotients}
use Rattle.std.proofs.Math.IntN.{*ℤ_comm, *ℤ-negsuc}
use Rattle.range_spans.specs.Spans.{Span, IsIn, around_zero, magnitude, raised, between, joined}
use Rattle.range_spans.specs.Spans.{times}
use Rattle.range_spans.specs.Spans.{products}
use Rattle.range_spans.specs.Known.{Known, Truth, Number, Nothing, Has, Guess, Tells, not_known, neg_known, of_flags}
use Rattle.range_spans.specs.Known.{of_numbers, at_common, sum_known, difference_known, product_known, quotient_known}
use Rattle.range_spans.specs.Known.{lt_known, le_known, gt_known, ge_known, of_operator, may_be_zero, divides_by_zero}
use Rattle.range_spans.specs.Known.{of_sort, guess, eq_known, same_known, of_equal}

-- ---- spans

-- a product keeps the order
pub times_le : (a b : ℤ) (n : ℕ) → a ≤ℤ b → (a *ℤ pos n) ≤ℤ (b *ℤ pos n)
times_le (pos a) (pos b) n h =
    let l : a ≤ b = grind (arith, ints) in let m = mul-le a n b n l (omega arith) in grind (arith, ints)
times_le (pos a) (negsuc b) n h = absurd (grind (arith, ints))
times_le (negsuc a) (pos b) n h =
    let e : negsuc a *ℤ pos n ≡ neg_ℤ (pos (suc a * n)) = refl in grind (arith, ints)
times_le (negsuc a) (negsuc b) n h =
    let l : suc b ≤ suc a = grind (arith, ints) in let m = mul-le (suc b) n (suc a) n l (omega arith) in grind
    (arith, ints)

pub raised_in : (s : Span) (z : ℤ) (bits : ℕ) → IsIn s z → IsIn (raised s bits) (z *ℤ pos (2 ^ bits))
raised_in s z bits h = record {
  above = times_le s.low z (2 ^ bits) h.above;
  below = times_le z s.high (2 ^ bits) h.below;
}

-- a number of a span has at most its greatest magnitude
pub magnitude_of : (s : Span) (z : ℤ) → IsIn s z → unsigned_abs z ≤ magnitude s
magnitude_of s z h = let a = h.above in let b = h.below in omega (arith, ints)

pub around_zero_has : (n : ℕ) (z : ℤ) → unsigned_abs z ≤ n → IsIn (around_zero n) z
around_zero_has n z h = record { above = omega (arith, ints); below = omega (arith, ints) }

-- ---- operators

either_true : (a b : Bool) → a ≡ true → (a || b) ≡ true
either_true true b e = refl
either_true false b e = absurd cc

or_true : (a b : Bool) → b ≡ true → (a || b) ≡ true
or_true true b e = refl
or_true false b e = e

and_true : (a b : Bool) → a ≡ true → b ≡ true → (a && b) ≡ true
and_true true b e q = q
and_true false b e q = absurd cc

-- both sides of `||` and of `&&`
or_has : (f t g u a b : Bool) → cond a t f ≡ true → cond b u g ≡ true
    → cond (a || b) (t || u) (f && g) ≡ true
or_has f t g u true b h i = either_true t u h
or_has f t g u false true h i = or_true t u i
or_has f t g u false false h i = and_true f g h i

and_has : (f t g u a b : Bool) → cond a t f ≡ true → cond b u g ≡ true
    → cond (a && b) (t && u) (f || g) ≡ true
and_has f t g u false b h i = either_true f g h
and_has f t g u true true h i = and_true t u h i
and_has f t g u true false h i = or_true f g i

-- an operator of flags: what it is of two flags suffices
flags_have : (op : Bool → Bool → Bool → Bool → Known) (r : Bool → Bool → Bool)
    → ((f t g u a b : Bool) → cond a t f ≡ true → cond b u g ≡ true → Has (op f t g u) (values.Flag (r a b)))
    → (j k : Known) (a b : Value) → Has j a → Has k b → Has (of_flags op j k) (values.Flag (r (flag_of a) (flag_of b)))
flags_have op r p (Truth f t) (Truth g u) (values.Flag a) (values.Flag b) h i = p f t g u a b h i
flags_have op r p (Truth f t) (Truth g u) (values.Flag a) (values.Number n) h i = absurd i
flags_have op r p (Truth f t) (Truth g u) (values.Number n) b h i = absurd h
flags_have op r p (Truth f t) (Number s frac) a b h i = tt
flags_have op r p (Truth f t) Nothing a b h i = tt
flags_have op r p (Number s frac) k a b h i = tt
flags_have op r p Nothing k a b h i = tt

-- an operator of numbers: what it is of two numbers suffices
numbers_have : (op : Span → ℕ → Span → ℕ → Known) (r : Num → Num → Value)
    → ((s t : Span) (m n : Num) → IsIn s m.mantissa → IsIn t n.mantissa → Has (op s m.frac t n.frac) (r m n))
    → (j k : Known) (a b : Value) → Has j a → Has k b → Has (of_numbers op j k) (r (number_of a) (number_of b))
numbers_have op r p (Number s f) (Number t g) (values.Number m) (values.Number n) h i =
    subst (λ x. Has (op s x t g) (r m n)) h.0 (subst (λ y. Has (op s m.frac t y) (r m n)) i.0 (p s t m n h.1 i.1))
numbers_have op r p (Number s f) (Number t g) (values.Number m) (values.Flag b) h i = absurd i
numbers_have op r p (Number s f) (Number t g) (values.Flag a) b h i = absurd h
numbers_have op r p (Number s f) (Truth g u) a b h i = tt
numbers_have op r p (Number s f) Nothing a b h i = tt
numbers_have op r p (Truth f t) k a b h i = tt
numbers_have op r p Nothing k a b h i = tt

-- numbers at their common fraction
left_in : (s : Span) (m n : Num) → IsIn s m.mantissa → IsIn (raised s (max m.frac n.frac - m.frac))
    (scaled m (common_frac m n))
left_in s m n h = raised_in s m.mantissa (max m.frac n.frac - m.frac) h

right_in : (t : Span) (m n : Num) → IsIn t n.mantissa → IsIn (raised t (max m.frac n.frac - n.frac))
    (scaled n (common_frac m n))
right_in t m n h = raised_in t n.mantissa (max m.frac n.frac - n.frac) h

sum_in : (s t : Span) (a b : ℤ) → IsIn s a → IsIn t b
    → IsIn (record { low = s.low +ℤ t.low; high = s.high +ℤ t.high }) (a +ℤ b)
sum_in s t a b h i =
    let p = h.above in let q = h.below in let u = i.above in let v = i.below in
    record { above = omega (arith, ints); below = omega (arith, ints) }

difference_in : (s t : Span) (a b : ℤ) → IsIn s a → IsIn t b
    → IsIn (record { low = s.low -ℤ t.high; high = s.high -ℤ t.low }) (a -ℤ b)
difference_in s t a b h i =
    let p = h.above in let q = h.below in let u = i.above in let v = i.below in
    record { above = omega (arith, ints); below = omega (arith, ints) }

-- a number between two others has its product with a number between theirs
ordered_in : (x y z : ℤ) → x ≤ℤ y → y ≤ℤ z → IsIn (between x z) y
ordered_in x y z h k = record { above = grind (arith, ints); below = grind (arith, ints) }

turned_in : (x y z : ℤ) → x ≤ℤ y → y ≤ℤ z → IsIn (between (neg_ℤ x) (neg_ℤ z)) (neg_ℤ y)
turned_in x y z h k = record { above = grind (arith, ints); below = grind (arith, ints) }

between_times : (s : Span) (y c : ℤ) → IsIn s y → IsIn (times s c) (y *ℤ c)
between_times s y (pos n) h =
    ordered_in (s.low *ℤ pos n) (y *ℤ pos n) (s.high *ℤ pos n) (times_le s.low y n h.above)
    (times_le y s.high n h.below)
between_times s y (negsuc n) h =
    let k = suc n in
    let turned = turned_in (s.low *ℤ pos k) (y *ℤ pos k) (s.high *ℤ pos k) (times_le s.low y k h.above)
    (times_le y s.high k h.below) in
    subst (λ a. IsIn (between a (s.high *ℤ negsuc n)) (y *ℤ negsuc n)) (sym (*ℤ-negsuc s.low n))
    (subst (λ b. IsIn (between (neg_ℤ (s.low *ℤ pos k)) b) (y *ℤ negsuc n)) (sym (*ℤ-negsuc s.high n))
    (subst (λ m. IsIn (between (neg_ℤ (s.low *ℤ pos k)) (neg_ℤ (s.high *ℤ pos k))) m) (sym (*ℤ-negsuc y n)) turned))

joined_in : (s t : Span) (x y m : ℤ) → IsIn s x → IsIn t y → IsIn (between x y) m → IsIn (joined s t) m
joined_in s t x y m h i k =
    let a = h.above in let b = h.below in let c = i.above in let d = i.below in let e = k.above in let f = k.below in
    record { above = grind (arith, ints); below = grind (arith, ints) }

product_in : (s t : Span) (a b : ℤ) → IsIn s a → IsIn t b → IsIn (products s t) (a *ℤ b)
product_in s t a b h i =
    let turned : IsIn (between (t.low *ℤ a) (t.high *ℤ a)) (b *ℤ a) = between_times t b a i in
    let own : IsIn (between (a *ℤ t.low) (a *ℤ t.high)) (a *ℤ b) =
    subst (λ x. IsIn (between x (a *ℤ t.high)) (a *ℤ b)) (*ℤ_comm t.low a)
    (subst (λ y. IsIn (between (t.low *ℤ a) y) (a *ℤ b)) (*ℤ_comm t.high a)
    (subst (λ m. IsIn (between (t.low *ℤ a) (t.high *ℤ a)) m) (*ℤ_comm b a) turned)) in
    joined_in (times s t.low) (times s t.high) (a *ℤ t.low) (a *ℤ t.high) (a *ℤ b) (between_times s a t.low h)
    (between_times s a t.high h) own

-- a floor by one number keeps the order
div_le : (a b n : ℕ) → 0 < n → a ≤ b → a / n ≤ b / n
div_le a b n some l = le-div (a / n) b n some (omega (arith, div-mul-le_self a n))

floor_by_le : (a b : ℤ) (n : ℕ) → 0 < n → a ≤ℤ b → floor_by a n ≤ℤ floor_by b n
floor_by_le (pos a) (pos b) n some h =
    let l : a ≤ b = grind (arith, ints) in let m = div_le a b n some l in grind (arith, ints)
floor_by_le (pos a) (negsuc b) n some h = absurd (grind (arith, ints))
floor_by_le (negsuc a) (pos b) n some h = grind (arith, ints)
floor_by_le (negsuc a) (negsuc b) n some h =
    let l : b ≤ a = grind (arith, ints) in let m = div_le b a n some l in grind (arith, ints)

floor_div_le : (a b d : ℤ) → int_lt (pos 0) d ≡ true → a ≤ℤ b → floor_div a d ≤ℤ floor_div b d
floor_div_le a b (pos n) some h = floor_by_le a b n (grind (arith, ints)) h
floor_div_le a b (negsuc n) some h = absurd (grind (arith, ints))

both_parts : (a b : Bool) → (a && b) ≡ true → (a ≡ true) × (b ≡ true)
both_parts true b e = (refl, e)
both_parts false b e = absurd cc

one_number : (t : Span) (d : ℤ) → IsIn t d → int_le t.high t.low ≡ true → d ≡ t.low
one_number t d h e = let p = h.above in let q = h.below in grind (arith, ints)

quotient_at : (b : Bool) (s t : Span) (z d : ℤ) → (int_le t.high t.low && int_lt (pos 0) t.low) ≡ b → IsIn s z
    → IsIn t d
    → IsIn (cond b (record { low = floor_div s.low t.low; high = floor_div s.high t.low }) (around_zero (magnitude s)))
    (floor_div z d)
quotient_at true s t z d e h i =
    let one = both_parts (int_le t.high t.low) (int_lt (pos 0) t.low) e in
    subst (λ x. IsIn (record { low = floor_div s.low t.low; high = floor_div s.high t.low }) (floor_div z x))
    (sym (one_number t d i one.0))
    (record { above = floor_div_le s.low z t.low one.1 h.above; below = floor_div_le z s.high t.low one.1 h.below })
quotient_at false s t z d e h i =
    around_zero_has (magnitude s) (floor_div z d) (omega (arith, floor_div-within z d, magnitude_of s z h))

quotient_in : (s t : Span) (z d : ℤ) → IsIn s z → IsIn t d → IsIn (quotients s t) (floor_div z d)
quotient_in s t z d h i = quotient_at (int_le t.high t.low && int_lt (pos 0) t.low) s t z d refl h i

-- comparisons
lt_has : (s t : Span) (a b : ℤ) → IsIn s a → IsIn t b
    → cond (is_lt (int_cmp a b)) (int_lt s.low t.high) (int_le t.low s.high) ≡ true
lt_has s t a b h i =
    let p = h.above in let q = h.below in let u = i.above in let v = i.below in grind (arith, ints)

le_has : (s t : Span) (a b : ℤ) → IsIn s a → IsIn t b
    → cond (is_le (int_cmp a b)) (int_le s.low t.high) (int_lt t.low s.high) ≡ true
le_has s t a b h i =
    let p = h.above in let q = h.below in let u = i.above in let v = i.below in grind (arith, ints)

gt_has : (s t : Span) (a b : ℤ) → IsIn s a → IsIn t b
    → cond (is_gt (int_cmp a b)) (int_lt t.low s.high) (int_le s.low t.high) ≡ true
gt_has s t a b h i =
    let p = h.above in let q = h.below in let u = i.above in let v = i.below in grind (arith, ints)

ge_has : (s t : Span) (a b : ℤ) → IsIn s a → IsIn t b
    → cond (is_ge (int_cmp a b)) (int_le t.low s.high) (int_lt s.low t.high) ≡ true
ge_has s t a b h i =
    let p = h.above in let q = h.below in let u = i.above in let v = i.below in grind (arith, ints)

eq_has : (s t : Span) (a b : ℤ) → IsIn s a → IsIn t b
    → cond (is_eq (int_cmp a b)) (int_le s.low t.high && int_le t.low s.high)
    (not (int_le s.high t.low && int_le t.high s.low)) ≡ true
eq_has s t a b h i =
    let p = h.above in let q = h.below in let u = i.above in let v = i.below in grind (arith, ints)

-- two flags are the same
same_has : (f t g u a b : Bool) → cond a t f ≡ true → cond b u g ≡ true
    → cond (same_flag a b) ((f && g) || (t && u)) ((f && u) || (t && g)) ≡ true
same_has f t g u true true h i = or_true (f && g) (t && u) (and_true t u h i)
same_has f t g u true false h i = or_true (f && u) (t && g) (and_true t g h i)
same_has f t g u false true h i = either_true (f && u) (t && g) (and_true f u h i)
same_has f t g u false false h i = either_true (f && g) (t && u) (and_true f g h i)

-- two values are equal
equal_has : (j k : Known) (a b : Value) → Has j a → Has k b → Has (of_equal j k) (values.Flag (are_equal a b))
equal_has (Truth f t) k (values.Flag a) b h i = flags_have same_known same_flag same_has (Truth f t) k (values.Flag a)
    b h i
equal_has (Truth f t) k (values.Number n) b h i = absurd h
equal_has (Number s frac) k (values.Flag a) b h i = absurd h
equal_has (Number s frac) k (values.Number m) b h i =
    numbers_have (at_common eq_known) (λ m n. values.Flag (is_eq (order_of m n)))
    (λ s t m n p q. eq_has _ _ _ _ (left_in s m n p) (right_in t m n q)) (Number s frac) k (values.Number m) b h i
equal_has Nothing k a b h i = tt

turned_has : (k : Known) (a : Value) → Has k a → Has (not_known k) (values.Flag (not (flag_of a)))
turned_has (Truth f t) (values.Flag true) h = h
turned_has (Truth f t) (values.Flag false) h = h
turned_has (Truth f t) (values.Number n) h = absurd h
turned_has (Number s frac) a h = tt
turned_has Nothing a h = tt

-- a number that is 0 may be 0
zero_known : (k : Known) (b : Value) → Has k b → nat_eq (unsigned_abs (number_of b).mantissa) 0 ≡ true
    → may_be_zero k ≡ true
zero_known (Truth f t) b h e = refl
zero_known Nothing b h e = refl
zero_known (Number s frac) (values.Flag b) h e = absurd h
zero_known (Number s frac) (values.Number n) h e =
    let p = h.1.above in let q = h.1.below in grind (arith, ints)

quotient_has : (j k : Known) (a b : Value) → Has j a → Has k b
    → nat_eq (unsigned_abs (number_of b).mantissa) 0 ≡ false
    → Has (of_numbers quotient_known j k) (values.Number (record {
      mantissa = floor_div (dividend_of (number_of a) (number_of b)) (number_of b).mantissa;
      frac = common_frac (number_of a) (number_of b);
    }))
quotient_has j k a b h i e =
    numbers_have quotient_known
    (λ m n. values.Number (record { mantissa = floor_div (dividend_of m n) n.mantissa; frac = common_frac m n }))
    (λ s t m n p q. (
      refl,
      quotient_in (raised s ((max m.frac n.frac - m.frac) + n.frac)) t (dividend_of m n) n.mantissa
          (raised_in s m.mantissa ((max m.frac n.frac - m.frac) + n.frac) p) q,
    )) j k a b h i

quotient_tells : (zero : Bool) (j k : Known) (a b : Value) → Has j a → Has k b
    → nat_eq (unsigned_abs (number_of b).mantissa) 0 ≡ zero
    → Tells (record { known = of_numbers quotient_known j k; zero = may_be_zero k })
    (quotient_value (if zero then Err (record {}) else Ok (record {
      mantissa = floor_div (dividend_of (number_of a) (number_of b)) (number_of b).mantissa;
      frac = common_frac (number_of a) (number_of b);
    })))
quotient_tells true j k a b h i e = (refl, zero_known k b i e)
quotient_tells false j k a b h i e = quotient_has j k a b h i e

-- what is known of an operator's value holds
applied_tells : (op : Op) (j k : Known) (a b : Value) → Has j a → Has k b
    → Tells (record { known = of_operator op j k; zero = divides_by_zero op k }) (applied op a b)
applied_tells ops.Or j k a b h i = flags_have _ (λ x y. x || y) or_has j k a b h i
applied_tells ops.And j k a b h i = flags_have _ (λ x y. x && y) and_has j k a b h i
applied_tells ops.Eq j k a b h i = equal_has j k a b h i
applied_tells ops.Ne j k a b h i =
    turned_has (of_equal j k) (values.Flag (are_equal a b)) (equal_has j k a b h i)
applied_tells ops.Lt j k a b h i =
    numbers_have (at_common lt_known) (λ m n. values.Flag (is_lt (order_of m n)))
    (λ s t m n p q. lt_has _ _ _ _ (left_in s m n p) (right_in t m n q)) j k a b h i
applied_tells ops.Le j k a b h i =
    numbers_have (at_common le_known) (λ m n. values.Flag (is_le (order_of m n)))
    (λ s t m n p q. le_has _ _ _ _ (left_in s m n p) (right_in t m n q)) j k a b h i
applied_tells ops.Gt j k a b h i =
    numbers_have (at_common gt_known) (λ m n. values.Flag (is_gt (order_of m n)))
    (λ s t m n p q. gt_has _ _ _ _ (left_in s m n p) (right_in t m n q)) j k a b h i
applied_tells ops.Ge j k a b h i =
    numbers_have (at_common ge_known) (λ m n. values.Flag (is_ge (order_of m n)))
    (λ s t m n p q. ge_has _ _ _ _ (left_in s m n p) (right_in t m n q)) j k a b h i
applied_tells ops.Add j k a b h i =
    numbers_have (at_common sum_known) (λ m n. values.Number (sum_of m n))
    (λ s t m n p q. (refl, sum_in _ _ _ _ (left_in s m n p) (right_in t m n q))) j k a b h i
applied_tells ops.Sub j k a b h i =
    numbers_have (at_common difference_known) (λ m n. values.Number (difference_of m n))
    (λ s t m n p q. (refl, difference_in _ _ _ _ (left_in s m n p) (right_in t m n q))) j k a b h i
applied_tells ops.Mul j k a b h i =
    numbers_have product_known (λ m n. values.Number (product_of m n))
    (λ s t m n p q. (refl, product_in s t m.mantissa n.mantissa p q)) j k a b h i
applied_tells ops.Div j k a b h i =
    quotient_tells (nat_eq (unsigned_abs (number_of b).mantissa) 0) j k a b h i refl

-- the left side alone decides
decided_has : (op : Op) (j k : Known) (a : Value) → Has j a → decides op a ≡ true → Has (of_operator op j k) a
decided_has ops.Or (Truth f t) (Truth g u) (values.Flag true) h e = either_true t u h
decided_has ops.Or (Truth f t) (Truth g u) (values.Flag false) h e = absurd cc
decided_has ops.Or (Truth f t) (Truth g u) (values.Number n) h e = absurd h
decided_has ops.Or (Truth f t) (Number s frac) a h e = tt
decided_has ops.Or (Truth f t) Nothing a h e = tt
decided_has ops.Or (Number s frac) k a h e = tt
decided_has ops.Or Nothing k a h e = tt
decided_has ops.And (Truth f t) (Truth g u) (values.Flag true) h e = absurd cc
decided_has ops.And (Truth f t) (Truth g u) (values.Flag false) h e = either_true f g h
decided_has ops.And (Truth f t) (Truth g u) (values.Number n) h e = absurd h
decided_has ops.And (Truth f t) (Number s frac) a h e = tt
decided_has ops.And (Truth f t) Nothing a h e = tt
decided_has ops.And (Number s frac) k a h e = tt
decided_has ops.And Nothing k a h e = tt
decided_has ops.Eq j k a h e = absurd cc
decided_has ops.Ne j k a h e = absurd cc
decided_has ops.Lt j k a h e = absurd cc
decided_has ops.Le j k a h e = absurd cc
decided_has ops.Gt j k a h e = absurd cc
decided_has ops.Ge j k a h e = absurd cc
decided_has ops.Add j k a h e = absurd cc
decided_has ops.Sub j k a h e = absurd cc
decided_has ops.Mul j k a h e = absurd cc
decided_has ops.Div j k a h e = absurd cc

-- ---- expressions

-- a value follows from what is known of its parts
after_value : (g m : Guess) (r : Valued) (f : Value → Valued) → Tells g r → (g.zero ≡ true → m.zero ≡ true)
    → ((a : Value) → r ≡ Ok a → Has g.known a → Tells m (f a)) → Tells m (with_value r f)
after_value g m (Ok a) f h z k = k a refl h
after_value g m (Err x) f h z k = (h.0, z h.1)

-- more may be a fault
wider : (k : Known) (z y : Bool) (r : Valued) → (z ≡ true → y ≡ true) → Tells (record { known = k; zero = z }) r
    → Tells (record { known = k; zero = y }) r
wider k z y (Ok a) e h = h
wider k z y (Err x) e h = (h.0, e h.1)

decided_tells : (b : Bool) (m : Guess) (a : Value) (r : Valued) → (b ≡ true → Has m.known a)
    → (b ≡ false → Tells m r) → Tells m (if b then Ok a else r)
decided_tells true m a r h k = h refl
decided_tells false m a r h k = k refl

negated_has : (k : Known) (a : Value) → Has k a → Has (neg_known k) (values.Number (negation_of (number_of a)))
negated_has (Truth f t) a h = tt
negated_has Nothing a h = tt
negated_has (Number s frac) (values.Flag b) h = absurd h
negated_has (Number s frac) (values.Number n) h =
    let p = h.1.above in let q = h.1.below in
    (h.0, record { above = omega (arith, ints); below = omega (arith, ints) })

own_flag : (b : Bool) → cond b b (not b) ≡ true
own_flag true = refl
own_flag false = refl

sort_has : (sort : Sort) (s : Span) (m : ℤ) → IsIn s m → Has (of_sort sort s) (value_at sort m)
sort_has sorts.Flag s m h = let p = h.above in let q = h.below in grind (arith, ints)
sort_has (sorts.Number scale) s m h = (refl, h)

-- what is known of the value of an expression holds, where data have those sorts and are in those spans
pub guess_tells : (sort : ℕ → Sort) (box : ℕ → Span) (vals : List Datum) (marks : Configuration) (e : Expr)
    → ((v : ℕ) → (datum vals v).sort ≡ sort v) → ((v : ℕ) → IsIn (box v) (datum vals v).mantissa)
    → Tells (guess sort box marks e) (value_of vals marks e)
unfolding guess value_of
guess_tells sort box vals marks (Lit n) d i =
    (refl, record { above = omega (arith, ints); below = omega (arith, ints) })
guess_tells sort box vals marks (Flag b) d i = own_flag b
guess_tells sort box vals marks (Read v) d i =
    subst (λ s. Has (of_sort s (box v)) (value_of_datum (datum vals v))) (d v)
    (sort_has (datum vals v).sort (box v) (datum vals v).mantissa (i v))
guess_tells sort box vals marks (Active s) d i = own_flag (is_on s marks)
guess_tells sort box vals marks (Neg a) d i =
    let g = guess sort box marks a in
    after_value g (record { known = neg_known g.known; zero = g.zero }) (value_of vals marks a) _
    (guess_tells sort box vals marks a d i) (λ z. z) (λ x _ h. negated_has g.known x h)
guess_tells sort box vals marks (Not a) d i =
    let g = guess sort box marks a in
    after_value g (record { known = not_known g.known; zero = g.zero }) (value_of vals marks a) _
    (guess_tells sort box vals marks a d i) (λ z. z) (λ x _ h. turned_has g.known x h)
guess_tells sort box vals marks (Bin op a b) d i =
    let right = right_box sort op a box in
    let g = guess sort box marks a in
    let h = guess sort right marks b in
    let m : Guess = record {
      known = of_operator op g.known h.known;
      zero = g.zero || h.zero || divides_by_zero op
          h.known;
    } in
    after_value g m (value_of vals marks a) _ (guess_tells sort box vals marks a d i) (λ z. grind arith)
    (λ x is p. decided_tells (decides op x) m x _ (λ e. decided_has op g.known h.known x p e)
    (λ e. after_value h m (value_of vals marks b) (applied op x)
    (guess_tells sort right vals marks b d (right_holds sort vals marks d op a x box i is e)) (λ z. grind arith)
    (λ y _ q. wider m.known (divides_by_zero op h.known) m.zero (applied op x y) (λ z. grind arith)
    (applied_tells op g.known h.known x y p q))))
