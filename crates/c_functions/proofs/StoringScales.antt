-- The C that brings a number to a scale gives what the scale keeps.
use Rattle.std.proofs.Common.{◌≡◌, ℕ, ◌+◌, ◌-◌, ◌^◌, ◌<◌, ◌≤◌, max, nat_eq, nat_le, ℤ, pos, unsigned_abs, int_lt}
use Rattle.std.proofs.Common.{int_le, Bool, true, false, cond, not, ◌&&◌, ◌||◌, refl, sym, ap, ◌∙◌, subst, arith}
use Rattle.std.proofs.lemmas.Int.{ints}
use Rattle.std.proofs.lemmas.Nat.{pow_pos, pow-add}
use Rattle.std.proofs.lemmas.Bool.Decides.{nat_tests}
use Rattle.fixed_point.proofs.Powers.{power-le}
use Rattle.fixed_point.proofs.Floors.{floored-raised, floored-dropped}
use Rattle.fixed_point.specs.Numbers.{floored}
use Rattle.fixed_point.specs.Scales.{least, greatest, is_in_range, nearest_end}
use Rattle.fixed_point.specs.declared.num.Num.{Num}
use Rattle.fixed_point.specs.declared.scale.Scale.{Scale}
use Rattle.actions.specs.Sorts.{size_at, magnitude_bits}
use Rattle.actions.proofs.MagnitudeLemmas.{size-weaker, scaled-within, floor_div-within}
use Rattle.c_subset.specs.Trees.{CExpr, Const, Either, Choose}
use Rattle.c_subset.specs.declared.trees.Width.{Width}
use Rattle.c_subset.specs.declared.trees.CType.{CType}
use Rattle.c_subset.specs.declared.trees.CType.TheVariants.{Signed, Truth}
use Rattle.c_subset.specs.declared.trees.Comparison.TheVariants.{IsBelow, IsAbove}
use Rattle.c_subset.specs.Meaning.{bits, fits_signed, Meaning, with_meaning, gives, as_signed, converted, promoted}
use Rattle.c_subset.specs.Meaning.{is_true, one_if, Store, Locals, meaning}
use Rattle.c_functions.specs.Translation.{brought}
use Rattle.c_functions.specs.Storing.{floored_width, floored_code, can_pass, can_pass_low, low_c, high_c, below_c}
use Rattle.c_functions.specs.Storing.{above_c, saturated_c, out_c}
use Rattle.c_subset.specs.Running.{with_local}
use Rattle.c_functions.specs.Code.{Set, Divide, Goes, ending}
use Rattle.c_functions.specs.Claims.{Has}
use Rattle.c_subset.proofs.TypeLemmas.{fitting-stays, promoted-signed, truth-stays}
use Rattle.c_functions.proofs.TranslationRoom.{size-fits, signed-stays, width_for-room}
use Rattle.c_functions.proofs.TranslationOperators.{Roomy, has_roomy, const-roomy, compare-has, divide-goes, brought-roomy}
use Rattle.c_functions.proofs.TranslationQuotients.{set-goes}
use Rattle.c_functions.proofs.TranslationDecisions.{either-decides}

-- ---- at the datum's fraction

pow-true : (d : ℕ) → is_true (pos (2 ^ d)) ≡ true
pow-true d = let some = pow_pos d in let other : nat_eq (2 ^ d) 0 ≡ false = grind (arith, nat_tests) in ap not other

-- and there it has that size
pub floored-small : (n : Num) (size t : ℕ) → unsigned_abs n.mantissa ≤ 2 ^ size
    → unsigned_abs (floored n t) ≤ 2 ^ size_at t n.frac size
floored-small n size t small = at (nat_le n.frac t) refl
  where
    at : (b : Bool) → nat_le n.frac t ≡ b → unsigned_abs (floored n t) ≤ 2 ^ size_at t n.frac size
    at true is =
        let above : n.frac ≤ t = grind (arith, nat_tests) in
        let same = ap unsigned_abs (floored-raised n t above) in
        omega (arith, same, scaled-within n t size small)
    at false is =
        let below : t ≤ n.frac = grind (arith, nat_tests) in
        let same = ap unsigned_abs (floored-dropped n t below) in
        omega (
          arith,
          same,
          floor_div-within n.mantissa (pos (2 ^ (n.frac - t))),
          size-weaker _ size
              (size_at t n.frac size) small (omega arith),
        )

-- the code that brings the number to the datum's fraction, where its size is at most 100
pub floored-goes : (int : Width) (s : Store) (l : Locals) (n : Num) (k size t : ℕ) (e : CExpr) → n.frac ≤ 64
    → unsigned_abs n.mantissa ≤ 2 ^ size → size_at t n.frac size ≤ 100 → Has int s l e n.mantissa
    → ending int s l (floored_code k n.frac size t e)
    ≡ Goes (with_local l (Signed (floored_width n.frac size t)) k (floored n t))
floored-goes int s l n k size t e few small most has = at (nat_le n.frac t) refl
  where
    big : ℕ
    big = max (size_at t n.frac size) (n.frac - t)

    w : Width
    w = floored_width n.frac size t

    room : big + 1 < bits w
    room = width_for-room big (omega (arith, few, most))

    raised : n.frac ≤ t → Has int s l (brought w (t - n.frac) e) (floored n t)
    raised above = subst (λ (z : ℤ). Has int s l (brought w (t - n.frac) e) z) (sym (floored-raised n t above))
        (has_roomy int s l big _ _
        (brought-roomy int s l w size big (t - n.frac) e n.mantissa room (omega arith) small has))

    within : unsigned_abs (floored n t) ≤ 2 ^ big
    within = size-weaker _ (size_at t n.frac size) big (floored-small n size t small) (omega arith)

    dropped : t ≤ n.frac → ending int s l (Divide w k e (Const (Signed w) (pos (2 ^ (n.frac - t)))))
        ≡ Goes (with_local l (Signed w) k (floored n t))
    dropped below = divide-goes int s l w k big e (Const (Signed w) (pos (2 ^ (n.frac - t)))) n.mantissa
        (pos (2 ^ (n.frac - t)))
        room has (has_roomy int s l big _ _
        (const-roomy int s l w big (pos (2 ^ (n.frac - t))) room (power-le (n.frac - t) big (omega arith))))
        (size-weaker _ size big small (omega arith)) (power-le (n.frac - t) big (omega arith)) (pow-true (n.frac - t))
        ∙ ap (λ (z : ℤ). Goes (with_local l (Signed w) k z)) (sym (floored-dropped n t below))

    at : (b : Bool) → nat_le n.frac t ≡ b → ending int s l
        (cond b (Set (Signed w) k (brought w (t - n.frac) e))
        (Divide w k e (Const (Signed w) (pos (2 ^ (n.frac - t))))))
        ≡ Goes (with_local l (Signed w) k (floored n t))
    at true is = set-goes int s l k (Signed w) (brought w (t - n.frac) e) (floored n t) (floored n t)
        (raised (grind (arith, nat_tests))) (signed-stays w big (floored n t) room within)
    at false is = dropped (grind (arith, nat_tests))

-- ---- the conditional

-- the value that is chosen, where it is one of the type
pub choose-has : (int : Width) (s : Store) (l : Locals) (w : Width) (c a b : CExpr) (t : Bool) (x y : ℤ)
    → fits_signed (bits w) (cond t x y) ≡ true → Has int s l c (one_if t)
    → (t ≡ true → Has int s l a x) → (t ≡ false → Has int s l b y) → Has int s l (Choose (Signed w) c a b) (cond t x y)
unfolding meaning
choose-has int s l w c a b t x y fits hc ha hb = at t refl
  where
    brought : Meaning → Meaning
    brought m = with_meaning m
        (λ y. with_meaning (as_signed w y.value) (λ z. converted (promoted int (Signed w)) z.value))

    test : meaning int s l (Choose (Signed w) c a b) ≡ brought (cond t (meaning int s l a) (meaning int s l b))
    test = ap (λ (m : Meaning). with_meaning m
        (λ x. brought (cond (is_true x.value) (meaning int s l a) (meaning int s l b)))) hc.1
        ∙ ap (λ (t : Bool). brought (cond t (meaning int s l a) (meaning int s l b))) (truth-stays t)

    stays : (u : CType) (z : ℤ) → fits_signed (bits w) z ≡ true → (v : CType) × (brought (gives u z) ≡ gives v z)
    stays u z fits =
        let p = promoted-signed int w in (
          Signed p.to,
          ap (λ (m : Meaning). with_meaning m (λ z. converted (promoted int (Signed w)) z.value))
              (fitting-stays (bits w) w z (omega arith) fits)
              ∙ ap (λ (t : CType). converted t z) p.is ∙ fitting-stays (bits w) p.to z p.wider fits,
        )

    at : (u : Bool) → t ≡ u → Has int s l (Choose (Signed w) c a b) (cond u x y)
    at true is =
        let h = ha is in
        let r = stays h.0 x (ap (λ (t : Bool). fits_signed (bits w) (cond t x y)) (sym is) ∙ fits) in (
          r.0,
          test ∙ ap (λ (t : Bool). brought (cond t (meaning int s l a) (meaning int s l b))) is ∙ ap brought h.1
              ∙ r.1,
        )
    at false is =
        let h = hb is in
        let r = stays h.0 y (ap (λ (t : Bool). fits_signed (bits w) (cond t x y)) (sym is) ∙ fits) in (
          r.0,
          test ∙ ap (λ (t : Bool). brought (cond t (meaning int s l a) (meaning int s l b))) is ∙ ap brought h.1
              ∙ r.1,
        )

-- ---- ends of the range

-- the ends in powers of two
least-small : (scale : Scale) → unsigned_abs (least scale) ≤ 2 ^ magnitude_bits scale
least-small scale = grind (arith, ints)

greatest-small : (scale : Scale) → unsigned_abs (greatest scale) ≤ 2 ^ magnitude_bits scale
greatest-small scale = grind (arith, ints)

-- no number of the size passes an end that isn't tested
not_above : (scale : Scale) (size : ℕ) (z : ℤ) → unsigned_abs z ≤ 2 ^ size → can_pass scale size ≡ false
    → int_lt (greatest scale) z ≡ false
not_above scale size z small is =
    let far : size + 1 ≤ magnitude_bits scale = grind (arith, nat_tests) in
    let h = power-le (size + 1) (magnitude_bits scale) far in
    let twice = pow-add 2 size 1 in
    let some = pow_pos size in
    grind (arith, ints)

not_below : (scale : Scale) (size : ℕ) (z : ℤ) → unsigned_abs z ≤ 2 ^ size → can_pass_low scale size ≡ false
    → int_lt z (least scale) ≡ false
not_below scale size z small is = at scale.signed refl
  where
    at : (b : Bool) → scale.signed ≡ b → int_lt z (least scale) ≡ false
    at true e =
        let far : size + 1 ≤ magnitude_bits scale = grind (arith, nat_tests) in
        let h = power-le (size + 1) (magnitude_bits scale) far in
        let twice = pow-add 2 size 1 in
        let some = pow_pos size in
        grind (arith, ints)
    at false e = cc

-- the ends have room where they are tested
high-roomy : (int : Width) (s : Store) (l : Locals) (scale : Scale) (size : ℕ) (w : Width) → size + 1 < bits w
    → can_pass scale size ≡ true → Roomy int s l size (high_c scale w) (greatest scale)
high-roomy int s l scale size w room is =
    let within : magnitude_bits scale ≤ size = grind (arith, nat_tests) in
    const-roomy int s l w size (greatest scale) room
    (size-weaker _ (magnitude_bits scale) size (greatest-small scale) within)

low-small : (scale : Scale) (size : ℕ) → can_pass_low scale size ≡ true → unsigned_abs (least scale) ≤ 2 ^ size
low-small scale size is = at scale.signed refl
  where
    at : (b : Bool) → scale.signed ≡ b → unsigned_abs (least scale) ≤ 2 ^ size
    at true e =
        let within : magnitude_bits scale ≤ size = grind (arith, nat_tests) in
        size-weaker _ (magnitude_bits scale) size (least-small scale) within
    at false e = let some = pow_pos size in grind (arith, ints)

above-has : (int : Width) (s : Store) (l : Locals) (scale : Scale) (size : ℕ) (w : Width) (x : CExpr) (z : ℤ)
    → size + 1 < bits w → Roomy int s l size x z → unsigned_abs z ≤ 2 ^ size → can_pass scale size ≡ true
    → Has int s l (above_c scale w x) (one_if (int_lt (greatest scale) z))
above-has int s l scale size w x z room has small is =
    let within : magnitude_bits scale ≤ size = grind (arith, nat_tests) in
    compare-has int s l IsAbove size x (high_c scale w) z (greatest scale) has
    (high-roomy int s l scale size w room is) small
    (size-weaker _ (magnitude_bits scale) size (greatest-small scale) within)

below-has : (int : Width) (s : Store) (l : Locals) (scale : Scale) (size : ℕ) (w : Width) (x : CExpr) (z : ℤ)
    → size + 1 < bits w → Roomy int s l size x z → unsigned_abs z ≤ 2 ^ size → can_pass_low scale size ≡ true
    → Has int s l (below_c scale w x) (one_if (int_lt z (least scale)))
below-has int s l scale size w x z room has small is =
    compare-has int s l IsBelow size x (low_c scale w) z (least scale) has
    (const-roomy int s l w size (least scale) room (low-small scale size is)) small (low-small scale size is)

-- ---- saturating

abbrev upper : Scale → ℤ → ℤ
upper scale z = cond (int_lt (greatest scale) z) (greatest scale) z

-- the upper end is at least 0
greatest-low : (scale : Scale) → int_le (pos 0) (greatest scale) ≡ true
greatest-low scale = at scale.signed
  where
    at : (b : Bool) → int_le (pos 0) (cond b (pos (2 ^ (scale.width - 1) - 1)) (pos (2 ^ scale.width - 1))) ≡ true
    at true = grind (arith, ints)
    at false = grind (arith, ints)

upper-small : (scale : Scale) (size : ℕ) (z : ℤ) → unsigned_abs z ≤ 2 ^ size → unsigned_abs (upper scale z) ≤ 2 ^ size
upper-small scale size z small = at (int_lt (greatest scale) z) refl
  where
    at : (b : Bool) → int_lt (greatest scale) z ≡ b → unsigned_abs (cond b (greatest scale) z) ≤ 2 ^ size
    at true is = below (greatest scale) (greatest-low scale) is
      where
        below : (g : ℤ) → int_le (pos 0) g ≡ true → int_lt g z ≡ true → unsigned_abs g ≤ 2 ^ size
        below g low is = grind (arith, ints)
    at false is = small

upper-has : (int : Width) (s : Store) (l : Locals) (scale : Scale) (size : ℕ) (w : Width) (x : CExpr) (z : ℤ)
    → size + 1 < bits w → Roomy int s l size x z → unsigned_abs z ≤ 2 ^ size
    → Has int s l (cond (can_pass scale size) (Choose (Signed w) (above_c scale w x) (high_c scale w) x) x)
    (upper scale z)
upper-has int s l scale size w x z room has small = at (can_pass scale size) refl
  where
    at : (b : Bool) → can_pass scale size ≡ b
        → Has int s l (cond b (Choose (Signed w) (above_c scale w x) (high_c scale w) x) x) (upper scale z)
    at true is = choose-has int s l w (above_c scale w x) (high_c scale w) x (int_lt (greatest scale) z)
        (greatest scale) z
        (size-fits (bits w) size (upper scale z) room (upper-small scale size z small))
        (above-has int s l scale size w x z room has small is)
        (λ _. has_roomy int s l size _ _ (high-roomy int s l scale size w room is))
        (λ _. has_roomy int s l size _ _ has)
    at false is = subst (λ (b : Bool). Has int s l x (cond b (greatest scale) z))
        (sym (not_above scale size z small is))
        (has_roomy int s l size _ _ has)

clamped : (low high z : ℤ) → cond (int_lt z low) low (cond (int_lt high z) high z)
    ≡ cond (int_le low z && int_le z high) z (cond (int_lt z low) low high)
clamped low high z = grind (arith, ints)

-- the nearest number in range
pub saturated-has : (int : Width) (s : Store) (l : Locals) (scale : Scale) (size : ℕ) (w : Width) (x : CExpr) (z : ℤ)
    → size + 1 < bits w → Roomy int s l size x z → unsigned_abs z ≤ 2 ^ size
    → Has int s l (saturated_c scale size w x) (cond (is_in_range scale z) z (nearest_end scale z))
saturated-has int s l scale size w x z room has small =
    subst (λ (y : ℤ). Has int s l (saturated_c scale size w x) y) (clamped (least scale) (greatest scale) z)
    (at (can_pass_low scale size) refl)
  where
    rest : CExpr
    rest = cond (can_pass scale size) (Choose (Signed w) (above_c scale w x) (high_c scale w) x) x

    rest_has : Has int s l rest (upper scale z)
    rest_has = upper-has int s l scale size w x z room has small

    lower : (b : Bool) → can_pass_low scale size ≡ true → unsigned_abs (cond b (least scale) (upper scale z)) ≤ 2 ^ size
    lower true is = low-small scale size is
    lower false is = upper-small scale size z small

    at : (b : Bool) → can_pass_low scale size ≡ b
        → Has int s l (cond b (Choose (Signed w) (below_c scale w x) (low_c scale w) rest) rest)
        (cond (int_lt z (least scale)) (least scale) (upper scale z))
    at true is = choose-has int s l w (below_c scale w x) (low_c scale w) rest (int_lt z (least scale)) (least scale)
        (upper scale z)
        (size-fits (bits w) size _ room (lower (int_lt z (least scale)) is))
        (below-has int s l scale size w x z room has small is)
        (λ _. has_roomy int s l size _ _ (const-roomy int s l w size (least scale) room (low-small scale size is)))
        (λ _. rest_has)
    at false is = subst (λ (b : Bool). Has int s l rest (cond b (least scale) (upper scale z)))
        (sym (not_below scale size z small is)) rest_has

-- ---- an overflow

pub flag-const : (int : Width) (s : Store) (l : Locals) (b : Bool) → Has int s l (Const Truth (one_if b)) (one_if b)
unfolding meaning
flag-const int s l b = (Truth, ap (λ (c : Bool). gives Truth (one_if c)) (truth-stays b))

either-has : (int : Width) (s : Store) (l : Locals) (a b : CExpr) (p q : Bool) → Has int s l a (one_if p)
    → Has int s l b (one_if q) → Has int s l (Either a b) (one_if (p || q))
either-has int s l a b true q ha hb = (either-decides int s a b).at_once l ha
either-has int s l a b false q ha hb = (either-decides int s a b).goes_on l q ha hb

outside : (low high z : ℤ) → (int_lt z low || int_lt high z) ≡ not (int_le low z && int_le z high)
outside low high z = grind (arith, ints)

-- the test of an overflow
pub out-has : (int : Width) (s : Store) (l : Locals) (scale : Scale) (size : ℕ) (w : Width) (x : CExpr) (z : ℤ)
    → size + 1 < bits w → Roomy int s l size x z → unsigned_abs z ≤ 2 ^ size
    → Has int s l (out_c scale size w x) (one_if (not (is_in_range scale z)))
out-has int s l scale size w x z room has small =
    subst (λ (b : Bool). Has int s l (out_c scale size w x) (one_if b)) (outside (least scale) (greatest scale) z)
    (at (can_pass_low scale size) (can_pass scale size) refl refl)
  where
    or_false : (p : Bool) → p ≡ (p || false)
    or_false true = refl
    or_false false = refl

    at : (b c : Bool) → can_pass_low scale size ≡ b → can_pass scale size ≡ c
        → Has int s l (cond b (cond c (Either (below_c scale w x) (above_c scale w x)) (below_c scale w x))
        (cond c (above_c scale w x) (Const Truth (pos 0))))
        (one_if (int_lt z (least scale) || int_lt (greatest scale) z))
    at true true low high = either-has int s l _ _ _ _ (below-has int s l scale size w x z room has small low)
        (above-has int s l scale size w x z room has small high)
    at true false low high = subst (λ (b : Bool). Has int s l (below_c scale w x) (one_if b))
        (or_false (int_lt z (least scale)) ∙ ap (λ (b : Bool). int_lt z (least scale) || b)
        (sym (not_above scale size z small high)))
        (below-has int s l scale size w x z room has small low)
    at false true low high = subst
        (λ (b : Bool). Has int s l (above_c scale w x) (one_if (b || int_lt (greatest scale) z)))
        (sym (not_below scale size z small low)) (above-has int s l scale size w x z room has small high)
    at false false low high = subst
        (λ (b : Bool). Has int s l (Const Truth (pos 0)) (one_if (b || int_lt (greatest scale) z)))
        (sym (not_below scale size z small low))
        (subst (λ (b : Bool). Has int s l (Const Truth (pos 0)) (one_if b)) (sym (not_above scale size z small high))
        (flag-const int s l false))
