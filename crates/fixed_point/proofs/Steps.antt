-- A decimal number in steps of a power of two, bit by bit.
use Rattle.std.proofs.Common.{◌≡◌, ◌≢◌, ℕ, ◌+◌, ◌-◌, ◌*◌, ◌/◌, ◌%◌, ◌^◌, ◌<◌, ◌≤◌, Bool}
use Rattle.std.proofs.Common.{true, nat_lt, if◌then◌else◌, Some, None, sym, ap, ◌∙◌, arith}
use Rattle.std.proofs.lemmas.Nat.{mul-le, le-div, div-add-mod'}
use Rattle.std.proofs.lemmas.Bool.Decides.{nat_tests}
use Rattle.fixed_point.specs.Text.{first_from}
use Rattle.fixed_point.specs.Reading.{is_exact, exact_frac, steps_of, steps_within}
use Rattle.fixed_point.proofs.Powers.{power-le, ten_some}
use Rattle.fixed_point.proofs.Digits.{first_from-here, first_from-later, first_from-none}
use Rattle.fixed_point.proofs.Digits.{quotient_times, rest_times, power_more, test_false, test_true}

-- the first of the fractions is this one
first_is : (first k : ℕ) → first ≡ k → k < 33 → (if nat_lt first 33 then Some first else None) ≡ Some k
first_is first k e below =
    ap (λ (x : ℕ). if nat_lt x 33 then Some x else None) e ∙ ap (λ (b : Bool). if b then Some k else None) passes
  where
    passes : nat_lt k 33 ≡ true
    passes = grind (arith, nat_tests)

-- a rest of 0 ends the search
pub exact_frac-here : (units places frac rest : ℕ) → rest ≡ (units * 2 ^ frac) % 10 ^ places
    → first_from (is_exact units places) frac (33 - frac) ≡ first_from (is_exact units places) 0 33
    → rest ≡ 0 → frac < 33 → exact_frac units places ≡ Some frac
exact_frac-here units places frac rest left to_come none below =
    first_is _ frac
    (sym to_come ∙ first_from-here (is_exact units places) frac (33 - frac) (test_true ((units * 2 ^ frac) % 10 ^ places) (sym left ∙ none))) below

-- no fraction was exact
pub exact_frac-none : (units places frac : ℕ)
    → first_from (is_exact units places) frac (33 - frac) ≡ first_from (is_exact units places) 0 33
    → frac ≡ 33 → exact_frac units places ≡ None
exact_frac-none units places frac to_come last =
    let past : first_from (is_exact units places) 0 33 ≡ 33 =
    sym to_come ∙ first_from-none (is_exact units places) frac (33 - frac) (omega arith) ∙ last in
    ap (λ (x : ℕ). if nat_lt x 33 then Some x else None) past

-- a rest that isn't 0 goes on
pub exact_frac-later : (units places frac rest : ℕ) → rest ≡ (units * 2 ^ frac) % 10 ^ places → rest ≢ 0 → frac < 33
    → first_from (is_exact units places) frac (33 - frac) ≡ first_from (is_exact units places) (frac + 1)
    (33 - (frac + 1))
exact_frac-later units places frac rest left other below =
    first_from-later (is_exact units places) frac (33 - (frac + 1)) (33 - frac) (omega arith)
    (test_false ((units * 2 ^ frac) % 10 ^ places) (λ e. other (left ∙ e)))

-- the rest with one more bit
pub rest-more : (units places frac rest one : ℕ) → one ≡ 10 ^ places → 0 < one → rest ≡ (units * 2 ^ frac) % 10 ^ places
    → (rest * 2) % one ≡ (units * 2 ^ (frac + 1)) % 10 ^ places
rest-more units places frac rest one one_is some left =
    ap (λ (x : ℕ). (x * 2) % one) (left ∙ ap (λ (x : ℕ). (units * 2 ^ frac) % x) (sym one_is))
    ∙ sym (rest_times (units * 2 ^ frac) one 2 some) ∙ ap (λ (x : ℕ). x % one) (sym (power_more units 2 frac))
    ∙ ap (λ (x : ℕ). (units * 2 ^ (frac + 1)) % x) one_is

-- the whole steps with one more bit
pub steps-more : (units places frac whole rest one : ℕ) → one ≡ 10 ^ places → 0 < one
    → whole ≡ steps_of units places frac
    → rest ≡ (units * 2 ^ frac) % 10 ^ places → whole * 2 + rest * 2 / one ≡ steps_of units places (frac + 1)
steps-more units places frac whole rest one one_is some whole_is left =
    let u = units * 2 ^ frac in
    let s = 10 ^ places in
    let some_s : 0 < s = omega (arith, one_is) in
    let next : steps_of units places (frac + 1) ≡ u / s * 2 + (u % s) * 2 / s =
    ap (λ (x : ℕ). x / s) (power_more units 2 frac) ∙ quotient_times u s 2 some_s in
    ap (λ (x : ℕ). x * 2 + rest * 2 / one) whole_is ∙ ap (λ (x : ℕ). u / s * 2 + x * 2 / one) left
    ∙ ap (λ (x : ℕ). u / s * 2 + (u % s) * 2 / x) one_is ∙ sym next

-- more bits are no fewer steps
pub steps-grow : (units places few many : ℕ) → few ≤ many → steps_of units places few ≤ steps_of units places many
steps-grow units places few many h =
    let some : 0 < 10 ^ places = ten_some places in
    le-div (steps_of units places few) (units * 2 ^ many) (10 ^ places) some
    (omega (arith, div-add-mod' (units * 2 ^ few) (10 ^ places), mul-le units (2 ^ few) units (2 ^ many) (omega arith) (power-le few many h)))

-- too many steps
pub steps_within-none : (units places frac : ℕ) → 2 ^ 99 ≤ steps_of units places frac
    → steps_within units places frac ≡ None
steps_within-none units places frac over = none_over (steps_of units places frac) over
  where
    none_over : (n : ℕ) → 2 ^ 99 ≤ n → (if nat_lt n (2 ^ 99) then Some n else None) ≡ None
    none_over n over = grind (arith, nat_tests)
