-- A call of flow_divW gives the floor, and no step of its body goes wrong.
use Rattle.std.proofs.Common.{◌≡◌, ℕ, suc, ◌-◌, ◌<◌, ◌≤◌, nat_eq, ℤ, pos, negsuc, ◌-ℤ◌, neg_ℤ, unsigned_abs, int_lt}
use Rattle.std.proofs.Common.{int_le, int_div, int_rem, Bool, true, false, cond, not, ◌&&◌, [], ◌∷◌, Option, Some}
use Rattle.std.proofs.Common.{slice_get, refl, sym, ap, ◌∙◌, arith}
use Rattle.std.proofs.lemmas.Int.{ints, rem_below}
use Rattle.std.proofs.lemmas.Nat.{pow_pos}
use Rattle.std.proofs.lemmas.Bool.Decides.{nat_tests}
use Rattle.fixed_point.specs.Numbers.{floor_div}
use Rattle.c_subset.specs.Trees.{Width, CType, Signed, Less, Quotient, Remainder, Comparison, IsUnequal, IsBelow, CExpr}
use Rattle.c_subset.specs.Trees.{Const, Local, Calc, Divide, Compare, Both, Choose, Function, File}
use Rattle.c_subset.specs.Meaning.{bits, fits_signed, CValue, Meaning, Wrong, with_meaning, gives, as_signed, converted}
use Rattle.c_subset.specs.Meaning.{one_if, is_true, exact, calculated, divided, divided_in, passes, truth, compared}
use Rattle.c_subset.specs.Meaning.{promoted, read_as, Store, Locals, meaning}
use Rattle.c_subset.specs.Running.{Outcome, Returns, with_value, same_type, no_locals, with_local, outcome}
use Rattle.c_subset.specs.Running.{with_arguments, returned, run, call}
use Rattle.c_subset.specs.Helpers.{is_low, floor_function}
use Rattle.c_subset.proofs.TypeLemmas.{fitting-stays, promoted-signed, common-signed, one-fits, truth-stays}
use Rattle.c_subset.proofs.TypeLemmas.{same_type-itself}
use Rattle.c_subset.proofs.FloorBody.{differ, is_short, body, body-is}

-- ---- numbers

-- the negative of a natural number isn't above 0
neg-low : (m : ℕ) → int_le (neg_ℤ (pos m)) (pos 0) ≡ true
neg-low m = grind (arith, ints)

-- where the signs differ the quotient isn't above 0
quotient-low : (x y : ℤ) → differ x y ≡ true → int_le (int_div x y) (pos 0) ≡ true
quotient-low (pos a) (pos b) e = absurd (grind (arith, ints))
quotient-low (negsuc a) (negsuc b) e = absurd (grind (arith, ints))
quotient-low (pos a) (negsuc b) e = neg-low _
quotient-low (negsuc a) (pos b) e = neg-low _

both-true : (p q : Bool) → (p && q) ≡ true → q ≡ true
both-true true q e = e
both-true false q e = cc

-- the quotient is one of the type, where its floor is
quotient-fits : (n : ℕ) (x y : ℤ) → is_true y ≡ true → fits_signed n (floor_div x y) ≡ true
    → fits_signed n (int_div x y) ≡ true
quotient-fits n x y some fits = at (is_short x y) refl
  where
    floor : body x y ≡ floor_div x y
    floor = body-is x y some

    at : (b : Bool) → is_short x y ≡ b → fits_signed n (int_div x y) ≡ true
    at true e =
        let low = quotient-low x y (both-true (is_true (int_rem x y)) (differ x y) e) in
        let less : int_div x y -ℤ pos 1 ≡ floor_div x y = sym
        (ap (λ (b : Bool). cond b (int_div x y -ℤ pos 1) (int_div x y)) e) ∙ floor in
        let fit : fits_signed n (int_div x y -ℤ pos 1) ≡ true = ap (fits_signed n) less ∙ fits in
        up (int_div x y) low fit
      where
        up : (q : ℤ) → int_le q (pos 0) ≡ true → fits_signed n (q -ℤ pos 1) ≡ true → fits_signed n q ≡ true
        up q low fit = let some = pow_pos (n - 1) in grind (arith, ints)
    at false e =
        let same : int_div x y ≡ floor_div x y = sym (ap (λ (b : Bool). cond b (int_div x y -ℤ pos 1) (int_div x y)) e)
        ∙ floor in
        ap (fits_signed n) same ∙ fits

-- a remainder is one of the type of the divisor
remainder-fits : (n : ℕ) (x y : ℤ) → is_true y ≡ true → fits_signed n y ≡ true → fits_signed n (int_rem x y) ≡ true
remainder-fits n x y some fits =
    let other : 0 < unsigned_abs y = grind (arith, nat_tests) in
    at (int_rem x y) (rem_below x y other)
  where
    at : (r : ℤ) → unsigned_abs r < unsigned_abs y → fits_signed n r ≡ true
    at r below = grind (arith, ints)

-- ---- operators on values of signed types of at least n bits

-- the expression gives the number in a signed type of at least so many bits
record Holds (int : Width) (s : Store) (l : Locals) (n : ℕ) (e : CExpr) (z : ℤ) : Type 0 where
  in_type : Width
  wide : n ≤ bits in_type
  is : meaning int s l e ≡ gives (Signed in_type) z

abbrev signed : Width → ℤ → CValue
signed w z = record { type = Signed w; value = z }

calc-holds : (int : Width) (s : Store) (l : Locals) (n : ℕ) (a b : CExpr) (x y : ℤ) → fits_signed n x ≡ true
    → fits_signed n y ≡ true → fits_signed n (x -ℤ y) ≡ true → Holds int s l n a x → Holds int s l n b y
    → Holds int s l n (Calc Less a b) (x -ℤ y)
unfolding meaning
calc-holds int s l n a b x y fx fy fz ha hb =
    let c = common-signed int ha.in_type hb.in_type in
    let wide : n ≤ bits c.to = omega (arith, c.left, ha.wide) in
    let in_type : CType → Meaning = λ t. with_meaning (converted t x)
    (λ a. with_meaning (converted t y) (λ b. converted t (exact Less a.value b.value))) in
    record {
      in_type = c.to;
      wide = wide;
      is = ap (λ (m : Meaning). with_meaning m (λ x. with_meaning (meaning int s l b) (calculated int Less x))) ha.is
          ∙ ap (λ (m : Meaning). with_meaning m (calculated int Less (signed ha.in_type x))) hb.is
          ∙ ap in_type c.is
          ∙ ap (λ (m : Meaning). with_meaning m
          (λ a. with_meaning (as_signed c.to y) (λ b. as_signed c.to (exact Less a.value b.value))))
          (fitting-stays n c.to x wide fx)
          ∙ ap (λ (m : Meaning). with_meaning m (λ b. as_signed c.to (exact Less x b.value)))
          (fitting-stays n c.to y wide fy)
          ∙ fitting-stays n c.to (x -ℤ y) wide fz;
    }

quotient-holds : (int : Width) (s : Store) (l : Locals) (n : ℕ) (a b : CExpr) (x y : ℤ) → fits_signed n x ≡ true
    → fits_signed n y ≡ true → is_true y ≡ true → fits_signed n (int_div x y) ≡ true → Holds int s l n a x
    → Holds int s l n b y → Holds int s l n (Divide Quotient a b) (int_div x y)
unfolding meaning
quotient-holds int s l n a b x y fx fy some fq ha hb =
    let c = common-signed int ha.in_type hb.in_type in
    let wide : n ≤ bits c.to = omega (arith, c.left, ha.wide) in
    let in_type : CType → Meaning = λ t. with_meaning (converted t x)
    (λ a. with_meaning (converted t y) (λ b. divided_in t Quotient a.value b.value)) in
    record {
      in_type = c.to;
      wide = wide;
      is = ap (λ (m : Meaning). with_meaning m (λ x. with_meaning (meaning int s l b) (divided int Quotient x))) ha.is
          ∙ ap (λ (m : Meaning). with_meaning m (divided int Quotient (signed ha.in_type x))) hb.is
          ∙ ap in_type c.is
          ∙ ap (λ (m : Meaning). with_meaning m
          (λ a. with_meaning (as_signed c.to y) (λ b. divided_in (Signed c.to) Quotient a.value b.value)))
          (fitting-stays n c.to x wide fx)
          ∙ ap (λ (m : Meaning). with_meaning m (λ b. divided_in (Signed c.to) Quotient x b.value))
          (fitting-stays n c.to y wide fy)
          ∙ ap (λ (b : Bool). cond b (as_signed c.to (int_div x y)) Wrong) some
          ∙ fitting-stays n c.to (int_div x y) wide fq;
    }

remainder-holds : (int : Width) (s : Store) (l : Locals) (n : ℕ) (a b : CExpr) (x y : ℤ) → fits_signed n x ≡ true
    → fits_signed n y ≡ true → is_true y ≡ true → fits_signed n (int_div x y) ≡ true → Holds int s l n a x
    → Holds int s l n b y → Holds int s l n (Divide Remainder a b) (int_rem x y)
unfolding meaning
remainder-holds int s l n a b x y fx fy some fq ha hb =
    let c = common-signed int ha.in_type hb.in_type in
    let wide : n ≤ bits c.to = omega (arith, c.left, ha.wide) in
    let in_type : CType → Meaning = λ t. with_meaning (converted t x)
    (λ a. with_meaning (converted t y) (λ b. divided_in t Remainder a.value b.value)) in
    record {
      in_type = c.to;
      wide = wide;
      is = ap (λ (m : Meaning). with_meaning m (λ x. with_meaning (meaning int s l b) (divided int Remainder x))) ha.is
          ∙ ap (λ (m : Meaning). with_meaning m (divided int Remainder (signed ha.in_type x))) hb.is
          ∙ ap in_type c.is
          ∙ ap (λ (m : Meaning). with_meaning m
          (λ a. with_meaning (as_signed c.to y) (λ b. divided_in (Signed c.to) Remainder a.value b.value)))
          (fitting-stays n c.to x wide fx)
          ∙ ap (λ (m : Meaning). with_meaning m (λ b. divided_in (Signed c.to) Remainder x b.value))
          (fitting-stays n c.to y wide fy)
          ∙ ap (λ (b : Bool). cond b
          (with_meaning (as_signed c.to (int_div x y)) (λ q. as_signed c.to (int_rem x y))) Wrong) some
          ∙ ap (λ (m : Meaning). with_meaning m (λ q. as_signed c.to (int_rem x y)))
          (fitting-stays n c.to (int_div x y) wide fq)
          ∙ fitting-stays n c.to (int_rem x y) wide (remainder-fits n x y some fy);
    }

compare-means : (int : Width) (s : Store) (l : Locals) (n : ℕ) (op : Comparison) (a b : CExpr) (x y : ℤ)
    → fits_signed n x ≡ true → fits_signed n y ≡ true → Holds int s l n a x → Holds int s l n b y
    → meaning int s l (Compare op a b) ≡ truth int (passes op x y)
unfolding meaning
compare-means int s l n op a b x y fx fy ha hb =
    let c = common-signed int ha.in_type hb.in_type in
    let wide : n ≤ bits c.to = omega (arith, c.left, ha.wide) in
    let in_type : CType → Meaning = λ t. with_meaning (converted t x)
    (λ a. with_meaning (converted t y) (λ b. truth int (passes op a.value b.value))) in
    ap (λ (m : Meaning). with_meaning m (λ x. with_meaning (meaning int s l b) (compared int op x))) ha.is
    ∙ ap (λ (m : Meaning). with_meaning m (compared int op (signed ha.in_type x))) hb.is
    ∙ ap in_type c.is
    ∙ ap (λ (m : Meaning). with_meaning m
    (λ a. with_meaning (as_signed c.to y) (λ b. truth int (passes op a.value b.value))))
    (fitting-stays n c.to x wide fx)
    ∙ ap (λ (m : Meaning). with_meaning m (λ b. truth int (passes op x b.value))) (fitting-stays n c.to y wide fy)

-- a truth value is a number of type int
truth-holds : (int : Width) (s : Store) (l : Locals) (e : CExpr) (b : Bool) → meaning int s l e ≡ truth int b
    → Holds int s l (bits int) e (one_if b)
truth-holds int s l e b is = record { in_type = int; wide = omega arith; is = is }

const-holds : (int : Width) (s : Store) (l : Locals) (w : Width) (z : ℤ) → fits_signed (bits w) z ≡ true
    → Holds int s l (bits w) (Const (Signed w) z) z
unfolding meaning
const-holds int s l w z fits = record {
  in_type = w;
  wide = omega arith;
  is = fitting-stays (bits w) w z
      (omega arith) fits;
}

local-holds : (int : Width) (s : Store) (l : Locals) (w : Width) (k : ℕ) (z : ℤ) → l (Signed w) k ≡ Some z
    → Holds int s l (bits w) (Local (Signed w) k) z
unfolding meaning
local-holds int s l w k z there = record { in_type = w; wide = omega arith; is = ap (read_as (Signed w)) there }

-- ---- the body

-- the comparison of truth values
unequal-truths : (p q : Bool) → passes IsUnequal (one_if p) (one_if q) ≡ cond p (not q) q
unequal-truths true true = refl
unequal-truths true false = refl
unequal-truths false true = refl
unequal-truths false false = refl

unequal-zero : (z : ℤ) → passes IsUnequal z (pos 0) ≡ is_true z
unequal-zero z = grind (arith, ints, nat_tests)

both-means : (int : Width) (s : Store) (l : Locals) (a b : CExpr) (p q : Bool) → meaning int s l a ≡ truth int p
    → meaning int s l b ≡ truth int q → meaning int s l (Both a b) ≡ truth int (p && q)
unfolding meaning
both-means int s l a b p q ha hb =
    ap (λ (m : Meaning). with_meaning m
    (λ x. cond (is_true x.value) (with_meaning (meaning int s l b) (λ y. truth int (is_true y.value)))
    (truth int false))) ha
    ∙ ap (λ (c : Bool). cond c (with_meaning (meaning int s l b) (λ y. truth int (is_true y.value))) (truth int false))
    (truth-stays p)
    ∙ ap (λ (m : Meaning). cond p (with_meaning m (λ y. truth int (is_true y.value))) (truth int false)) hb
    ∙ ap (λ (c : Bool). cond p (truth int c) (truth int false)) (truth-stays q) ∙ at p
  where
    at : (p : Bool) → cond p (truth int q) (truth int false) ≡ truth int (p && q)
    at true = refl
    at false = refl

-- the value that is chosen, where it is one of the type
choose-holds : (int w : Width) (s : Store) (l : Locals) (c a b : CExpr) (p : Bool) (v : Width) (z : ℤ)
    → fits_signed (bits w) z ≡ true → meaning int s l c ≡ truth int p
    → cond p (meaning int s l a) (meaning int s l b) ≡ gives (Signed v) z
    → Holds int s l (bits w) (Choose (Signed w) c a b) z
unfolding meaning
choose-holds int w s l c a b p v z fits hc chosen =
    let up = promoted-signed int w in
    let brought : Meaning → Meaning = λ m. with_meaning m
    (λ y. with_meaning (as_signed w y.value) (λ z. converted (promoted int (Signed w)) z.value)) in
    record {
      in_type = up.to;
      wide = up.wider;
      is = ap (λ (m : Meaning). with_meaning m
          (λ x. brought (cond (is_true x.value) (meaning int s l a) (meaning int s l b)))) hc
          ∙ ap (λ (c : Bool). brought (cond c (meaning int s l a) (meaning int s l b))) (truth-stays p)
          ∙ ap brought chosen
          ∙ ap (λ (m : Meaning). with_meaning m (λ z. converted (promoted int (Signed w)) z.value))
          (fitting-stays (bits w) w z (omega arith) fits)
          ∙ ap (λ (t : CType). converted t z) up.is
          ∙ fitting-stays (bits w) up.to z up.wider fits;
    }

module _ (int w : Width) (s : Store) (l : Locals) (x y : ℤ) (fx : fits_signed (bits w) x ≡ true)
    (fy : fits_signed (bits w) y ≡ true) (some : is_true y ≡ true) (fz : fits_signed (bits w) (floor_div x y) ≡ true)
    (left : l (Signed w) 0 ≡ Some x) (right : l (Signed w) 1 ≡ Some y) where
  abbrev a : CExpr
  a = Local (Signed w) 0

  abbrev b : CExpr
  b = Local (Signed w) 1

  abbrev nothing : CExpr
  nothing = Const (Signed w) (pos 0)

  a-holds : Holds int s l (bits w) a x
  a-holds = local-holds int s l w 0 x left

  b-holds : Holds int s l (bits w) b y
  b-holds = local-holds int s l w 1 y right

  nothing-holds : Holds int s l (bits w) nothing (pos 0)
  nothing-holds = const-holds int s l w (pos 0) (one-fits w false)

  fq : fits_signed (bits w) (int_div x y) ≡ true
  fq = quotient-fits (bits w) x y some fz

  quotient : Holds int s l (bits w) (Divide Quotient a b) (int_div x y)
  quotient = quotient-holds int s l (bits w) a b x y fx fy some fq a-holds b-holds

  below : (e : CExpr) (z : ℤ) → fits_signed (bits w) z ≡ true → Holds int s l (bits w) e z
      → Holds int s l (bits int) (Compare IsBelow e nothing) (one_if (int_lt z (pos 0)))
  below e z fits has = truth-holds int s l _ (int_lt z (pos 0))
      (compare-means int s l (bits w) IsBelow e nothing z (pos 0) fits (one-fits w false) has nothing-holds)

  test : meaning int s l (is_low a b nothing) ≡ truth int (is_short x y)
  test = both-means int s l _ _ (is_true (int_rem x y)) (differ x y)
      (compare-means int s l (bits w) IsUnequal (Divide Remainder a b) nothing (int_rem x y) (pos 0)
      (remainder-fits (bits w) x y some fy) (one-fits w false)
      (remainder-holds int s l (bits w) a b x y fx fy some fq a-holds b-holds) nothing-holds
      ∙ ap (truth int) (unequal-zero (int_rem x y)))
      (compare-means int s l (bits int) IsUnequal (Compare IsBelow a nothing) (Compare IsBelow b nothing)
      (one_if (int_lt x (pos 0))) (one_if (int_lt y (pos 0))) (one-fits int (int_lt x (pos 0)))
      (one-fits int (int_lt y (pos 0)))
      (below a x fx a-holds) (below b y fy b-holds)
      ∙ ap (truth int) (unequal-truths (int_lt x (pos 0)) (int_lt y (pos 0))))

  -- the body gives the floor
  body-means : Holds int s l (bits w)
      (Choose (Signed w) (is_low a b nothing) (Calc Less (Divide Quotient a b) (Const (Signed w) (pos 1)))
      (Divide Quotient a b)) (floor_div x y)
  body-means = at (is_short x y) refl
    where
      value : (c : Bool) → is_short x y ≡ c → cond c (int_div x y -ℤ pos 1) (int_div x y) ≡ floor_div x y
      value c is = sym (ap (λ (b : Bool). cond b (int_div x y -ℤ pos 1) (int_div x y)) is) ∙ body-is x y some

      at : (c : Bool) → is_short x y ≡ c → Holds int s l (bits w)
          (Choose (Signed w) (is_low a b nothing) (Calc Less (Divide Quotient a b) (Const (Signed w) (pos 1)))
          (Divide Quotient a b)) (floor_div x y)
      at true is =
          let less = calc-holds int s l (bits w) (Divide Quotient a b) (Const (Signed w) (pos 1)) (int_div x y)
          (pos 1) fq
          (one-fits w true) (ap (fits_signed (bits w)) (value true is) ∙ fz) quotient
          (const-holds int s l w (pos 1) (one-fits w true)) in
          choose-holds int w s l _ _ _ true less.in_type (floor_div x y) fz (test ∙ ap (truth int) is)
          (less.is ∙ ap (gives (Signed less.in_type)) (value true is))
      at false is = choose-holds int w s l _ _ _ false quotient.in_type (floor_div x y) fz (test ∙ ap (truth int) is)
          (quotient.is ∙ ap (gives (Signed quotient.in_type)) (value false is))

-- ---- the call

-- a parameter has its argument
set-there : (l : Locals) (t : CType) (k : ℕ) (z : ℤ) → with_local l t k z t k ≡ Some z
set-there l t k z =
    let same : nat_eq k k ≡ true = grind arith in
    ap (λ (b : Bool). cond (b && same_type t t) (Some z) (l t k)) same
    ∙ ap (λ (b : Bool). cond b (Some z) (l t k)) (same_type-itself t)

-- a call of the function
pub floor-call : (file : File) (int w : Width) (k f : ℕ) (s : Store) (x y : CValue)
    → slice_get file.functions f ≡ Some (floor_function w) → fits_signed (bits w) x.value ≡ true
    → fits_signed (bits w) y.value ≡ true → is_true y.value ≡ true
    → fits_signed (bits w) (floor_div x.value y.value) ≡ true
    → call file int (suc k) f (x ∷ y ∷ []) s ≡ Returns s (signed w (floor_div x.value y.value))
unfolding call with_arguments outcome
floor-call file int w k f s x y is fx fy some fz =
    ap (λ (g : Option Function). run int (call file int k) k g (x ∷ y ∷ []) s) is
    ∙ ap (λ (m : Meaning). with_value m
    (λ a. with_value (as_signed w y.value)
    (λ b. ends (with_local (with_local no_locals (Signed w) 0 a.value) (Signed w) 1 b.value))))
    (fitting-stays (bits w) w x.value (omega arith) fx)
    ∙ ap (λ (m : Meaning). with_value m
    (λ b. ends (with_local (with_local no_locals (Signed w) 0 x.value) (Signed w) 1 b.value)))
    (fitting-stays (bits w) w y.value (omega arith) fy)
    ∙ ap (λ (m : Meaning). returned (Signed w) (with_value m (λ x. Returns s x))) means.is
    ∙ ap (λ (m : Meaning). with_value m (λ y. Returns s y))
    (fitting-stays (bits w) w (floor_div x.value y.value) (omega arith) fz)
  where
    ends : Locals → Outcome
    ends l = returned (Signed w) (outcome int (call file int k) k (floor_function w).body s l)

    l : Locals
    l = with_local (with_local no_locals (Signed w) 0 x.value) (Signed w) 1 y.value

    means : Holds int s l (bits w)
        (Choose (Signed w) (is_low (Local (Signed w) 0) (Local (Signed w) 1) (Const (Signed w) (pos 0)))
        (Calc Less (Divide Quotient (Local (Signed w) 0) (Local (Signed w) 1)) (Const (Signed w) (pos 1)))
        (Divide Quotient (Local (Signed w) 0) (Local (Signed w) 1))) (floor_div x.value y.value)
    means = body-means int w s l x.value y.value fx fy some fz (set-there no_locals (Signed w) 0 x.value)
        (set-there (with_local no_locals (Signed w) 0 x.value) (Signed w) 1 y.value)
