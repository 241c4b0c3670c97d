-- Long division of a number by a power of two, digit by digit.
use Rattle.std.proofs.Common.{◌≡◌, ◌≢◌, ℕ, zero, suc, ◌+◌, ◌-◌, ◌*◌, ◌/◌, ◌%◌, ◌^◌, ◌<◌, ◌≤◌}
use Rattle.std.proofs.Common.{Bool, true, false, cond, nat_eq, [], ◌∷◌, ◌++◌, length, refl}
use Rattle.std.proofs.Common.{sym, ap, ◌∙◌, ⊎_elim, subst, length-append, add-one, arith}
use Rattle.std.proofs.lemmas.Nat.{pow_pos, div-mul-add, mod-mul-add, div-add-mod', mod_below, div_below, mul-pow}
use Rattle.std.proofs.Math.Nat.{pow-suc}
use Rattle.std.proofs.lemmas.Bool.{cases_lt}
use Rattle.std.proofs.lemmas.Bool.Decides.{nat_tests}
use Rattle.fixed_point.specs.Text.{first_from, last_digits, ends_within, places_of, fraction_digits}
use Rattle.fixed_point.proofs.Floors.{nothing_over}

-- ---- the first number that passes

-- it is the one at hand where that passes
pub first_from-here : (test : ℕ → Bool) (k n : ℕ) → test k ≡ true → first_from test k n ≡ k
unfolding first_from
first_from-here test k zero e = refl
first_from-here test k (suc n) e = ap (λ (b : Bool). cond b k (first_from test (k + 1) n)) e

-- or one after it
pub first_from-later : (test : ℕ → Bool) (k m n : ℕ) → n ≡ suc m → test k ≡ false
    → first_from test k n ≡ first_from test (k + 1) m
unfolding first_from
first_from-later test k m n length_is e =
    ap (λ (x : ℕ). first_from test k x) length_is ∙ ap (λ (b : Bool). cond b k (first_from test (k + 1) m)) e

-- or none of no numbers
pub first_from-none : (test : ℕ → Bool) (k n : ℕ) → n ≡ 0 → first_from test k n ≡ k
unfolding first_from
first_from-none test k zero e = refl
first_from-none test k (suc n) e = absurd (omega arith)

-- it is at most the one after the last
first_from-within : (test : ℕ → Bool) (k n : ℕ) → first_from test k n ≤ k + n
unfolding first_from
first_from-within test k zero = omega arith
first_from-within test k (suc n) = within (test k) (first_from-within test (k + 1) n)
  where
    within : (b : Bool) → first_from test (k + 1) n ≤ (k + 1) + n → cond b k (first_from test (k + 1) n) ≤ k + suc n
    within true later = omega arith
    within false later = omega arith

-- ---- one step of a division

-- a sum with a multiple of s, by s
quotient_of_sum : (a b s : ℕ) → 0 < s → (a * s + b) / s ≡ a + b / s
quotient_of_sum a b s some =
    let parts : a * s + b ≡ (a + b / s) * s + b % s = omega (arith, div-add-mod' b s) in
    ap (λ (x : ℕ). x / s) parts ∙ div-mul-add (a + b / s) s (b % s) (mod_below b s some)

-- and what is left of it
rest_of_sum : (a b s : ℕ) → 0 < s → (a * s + b) % s ≡ b % s
rest_of_sum a b s some =
    let parts : a * s + b ≡ (a + b / s) * s + b % s = omega (arith, div-add-mod' b s) in
    ap (λ (x : ℕ). x % s) parts ∙ mod-mul-add (a + b / s) s (b % s) (mod_below b s some)

-- a product with m, by the quotient and the rest
times_split : (u s m : ℕ) → u * m ≡ (u / s * m) * s + (u % s) * m
times_split u s m = omega (arith, ap (λ (x : ℕ). x * m) (div-add-mod' u s))

-- m times a number, by s: m times the quotient, and what m times the rest gives
pub quotient_times : (u s m : ℕ) → 0 < s → u * m / s ≡ u / s * m + (u % s) * m / s
quotient_times u s m some = ap (λ (x : ℕ). x / s) (times_split u s m) ∙ quotient_of_sum (u / s * m) ((u % s) * m) s some

-- what is left of m times the number is left of m times the rest
pub rest_times : (u s m : ℕ) → 0 < s → (u * m) % s ≡ ((u % s) * m) % s
rest_times u s m some = ap (λ (x : ℕ). x % s) (times_split u s m) ∙ rest_of_sum (u / s * m) ((u % s) * m) s some

-- the next digit is below 10
pub digit_below : (r s : ℕ) → r < s → r * 10 / s < 10
digit_below r s below = div_below (r * 10) s 10 (omega arith) (omega arith)

-- one more power
pub power_more : (n b k : ℕ) → n * b ^ (k + 1) ≡ (n * b ^ k) * b
power_more n b k = omega (arith, ap (λ (x : ℕ). n * x) (ap (λ (x : ℕ). b ^ x) (add-one k) ∙ pow-suc b k))

-- ---- the digits so far

-- frac digits are enough
pub ends_at_last : (number frac : ℕ) → (number * 10 ^ frac) % 2 ^ frac ≡ 0
ends_at_last number frac =
    let parts : number * 10 ^ frac ≡ (number * 5 ^ frac) * 2 ^ frac =
    omega (arith, ap (λ (x : ℕ). number * x) (mul-pow 2 5 frac)) in
    ap (λ (x : ℕ). x % 2 ^ frac) parts ∙ nothing_over (number * 5 ^ frac) frac

-- a test for 0 fails of another number
pub test_false : (x : ℕ) → x ≢ 0 → nat_eq x 0 ≡ false
test_false x other = grind (arith, nat_tests)

-- and passes of 0
pub test_true : (x : ℕ) → x ≡ 0 → nat_eq x 0 ≡ true
test_true x e = grind (arith, nat_tests)

-- after k digits of number / 2 ^ frac this rest is left, and none of fewer digits were enough
pub record Divides (number frac k rest : ℕ) : Type 0 where
  pub few : k ≤ frac
  pub left : rest ≡ (number * 10 ^ k) % 2 ^ frac
  pub to_come : first_from (ends_within number frac) k (frac - k) ≡ places_of number frac

-- no digit is written
pub Divides-none : (number frac : ℕ) → Divides number frac 0 (number % 2 ^ frac)
Divides-none number frac =
    let same : number ≡ number * 1 = omega arith in
    let all : frac - 0 ≡ frac = omega arith in
    record {
      few = omega arith;
      left = ap (λ (x : ℕ). x % 2 ^ frac) same;
      to_come = ap (λ (x : ℕ). first_from (ends_within number frac) 0 x) all;
    }

-- a rest that isn't 0 has another digit
pub Divides-more : (number frac k rest : ℕ) → Divides number frac k rest → rest ≢ 0
    → Divides number frac (k + 1) ((rest * 10) % 2 ^ frac)
Divides-more number frac k rest so_far other =
    let at_last : k ≡ frac → rest ≡ 0 =
    λ e. so_far.left ∙ ap (λ (x : ℕ). (number * 10 ^ x) % 2 ^ frac) e ∙ ends_at_last number frac in
    let below : k < frac = ⊎_elim (λ h. h) (λ h. absurd (other (at_last (omega arith)))) (cases_lt k frac) in
    let left : (rest * 10) % 2 ^ frac ≡ (number * 10 ^ (k + 1)) % 2 ^ frac =
    ap (λ (x : ℕ). (x * 10) % 2 ^ frac) so_far.left ∙ sym (rest_times (number * 10 ^ k) (2 ^ frac) 10 (pow_pos frac))
    ∙ ap (λ (x : ℕ). x % 2 ^ frac) (sym (power_more number 10 k)) in
    let more : (number * 10 ^ k) % 2 ^ frac ≢ 0 = λ e. other (so_far.left ∙ e) in
    record {
      few = omega arith;
      left = left;
      to_come = sym (first_from-later (ends_within number frac) k (frac - (k + 1)) (frac - k) (omega arith)
          (test_false ((number * 10 ^ k) % 2 ^ frac) more)) ∙ so_far.to_come;
    }

-- with no rest these are the digits
pub Divides-all : (number frac k : ℕ) → Divides number frac k 0 → places_of number frac ≡ k
Divides-all number frac k so_far =
    sym so_far.to_come
    ∙ first_from-here (ends_within number frac) k (frac - k) (test_true ((number * 10 ^ k) % 2 ^ frac) (sym so_far.left))

-- the last digit stands at the end
last_digits-suc : (k n : ℕ) → last_digits (k + 1) n ≡ last_digits k (n / 10) ++ (48 + n % 10) ∷ []
unfolding last_digits
last_digits-suc k n = ap (λ (x : ℕ). last_digits x n) (add-one k)

-- the digits so far, and the next
pub last_digits-more : (number frac k : ℕ) → last_digits (k + 1) (number * 10 ^ (k + 1) / 2 ^ frac)
    ≡ last_digits k (number * 10 ^ k / 2 ^ frac) ++ (48 + (number * 10 ^ k) % 2 ^ frac * 10 / 2 ^ frac) ∷ []
last_digits-more number frac k =
    let u = number * 10 ^ k in
    let s = 2 ^ frac in
    let some : 0 < s = pow_pos frac in
    let digit = (u % s) * 10 / s in
    let below : digit < 10 = digit_below (u % s) s (mod_below u s some) in
    let parts : number * 10 ^ (k + 1) / s ≡ u / s * 10 + digit =
    ap (λ (x : ℕ). x / s) (power_more number 10 k) ∙ quotient_times u s 10 some in
    ap (λ (x : ℕ). last_digits (k + 1) x) parts
    ∙ last_digits-suc k (u / s * 10 + digit)
    ∙ ap (λ (x : ℕ). last_digits k x ++ (48 + (u / s * 10 + digit) % 10) ∷ []) (div-mul-add (u / s) 10 digit below)
    ∙ ap (λ (x : ℕ). last_digits k (u / s) ++ (48 + x) ∷ []) (mod-mul-add (u / s) 10 digit below)

-- k digits are k bytes
pub length-last_digits : (k n : ℕ) → length (last_digits k n) ≡ k
unfolding last_digits
length-last_digits zero n = refl
length-last_digits (suc k) n =
    length-append (last_digits k (n / 10)) ((48 + n % 10) ∷ []) ∙ omega (arith, length-last_digits k (n / 10))

-- no digits are no bytes
pub last_digits-none : (n : ℕ) → last_digits 0 n ≡ []
unfolding last_digits
last_digits-none n = refl

-- the digits so far, and the next by the rest
pub digits_more : (number frac k rest : ℕ) → Divides number frac k rest
    → last_digits k (number * 10 ^ k / 2 ^ frac) ++ (48 + rest * 10 / 2 ^ frac) ∷ []
    ≡ last_digits (k + 1) (number * 10 ^ (k + 1) / 2 ^ frac)
digits_more number frac k rest so_far =
    ap (λ (r : ℕ). last_digits k (number * 10 ^ k / 2 ^ frac) ++ (48 + r * 10 / 2 ^ frac) ∷ []) so_far.left
    ∙ sym (last_digits-more number frac k)

-- the digits so far are all of them
pub digits_all : (number frac k rest : ℕ) → Divides number frac k rest → rest ≡ 0
    → last_digits k (number * 10 ^ k / 2 ^ frac) ≡ fraction_digits number frac
digits_all number frac k rest so_far none =
    let all : places_of number frac ≡ k =
    Divides-all number frac k (subst (λ (r : ℕ). Divides number frac k r) none so_far) in
    ap (λ (x : ℕ). last_digits x (number * 10 ^ x / 2 ^ frac)) (sym all)

-- a rest is left only before the last of frac digits
pub more_places : (number frac k rest : ℕ) → Divides number frac k rest → rest ≢ 0 → k < frac
more_places number frac k rest so_far other =
    let next = Divides-more number frac k rest so_far other in omega (arith, next.few)

-- a fraction has a digit for each place
length-fraction_digits : (number frac : ℕ) → length (fraction_digits number frac) ≡ places_of number frac
length-fraction_digits number frac =
    length-last_digits (places_of number frac) (number * 10 ^ places_of number frac / 2 ^ frac)

-- at most frac
pub length-fraction_digits-le : (number frac : ℕ) → length (fraction_digits number frac) ≤ frac
length-fraction_digits-le number frac =
    omega (arith, length-fraction_digits number frac, first_from-within (ends_within number frac) 0 frac)
