-- No text that tells a number exactly is shorter than its decimal text.
use Rattle.std.proofs.Common.{◌≡◌, ◌≢◌, ℕ, suc, ◌+◌, ◌*◌, ◌/◌, ◌%◌, ◌^◌, ◌<◌, ◌≤◌, ℤ, pos, negsuc, int_lt, unsigned_abs}
use Rattle.std.proofs.Common.{Bool, true, false, ◌&&◌, nat_eq, nat_lt, if◌then◌else◌, List, [], ◌∷◌, ◌++◌, length}
use Rattle.std.proofs.Common.{decimal, refl, sym, ap, ◌∙◌, length-append, length-take, length-drop, arith}
use Rattle.std.proofs.Math.Nat.{div-le_self}
use Rattle.std.proofs.lemmas.Nat.{pow_pos}
use Rattle.std.proofs.lemmas.Bool.{false≢true}
use Rattle.std.proofs.lemmas.Bool.Decides.{nat_tests}
use Rattle.std.proofs.lemmas.Fmt.{length-decimal-le_wide}
use Rattle.std.specs.List.{prefix_len}
use Rattle.std.specs.Char.{is_ascii_digit}
use Rattle.fixed_point.specs.Text.{places_of, fraction_digits, behind_point, sign_of, decimal_text}
use Rattle.fixed_point.specs.Reading.{without, leading_digits, after_digits, digits_behind, is_negative}
use Rattle.fixed_point.specs.Reading.{whole_digits, after_whole, behind_digits, value_after, is_number}
use Rattle.fixed_point.specs.Told.{TellsExactly, IsShortest}
use Rattle.fixed_point.proofs.Digits.{length-last_digits}
use Rattle.fixed_point.proofs.Values.{value_after-append, AllPass-leading, AllPass-behind}
use Rattle.fixed_point.proofs.Powers.{ten_some}
use Rattle.fixed_point.proofs.Numerals.{AreDigits-from_pass, value_bounds, whole_by_bounds}
use Rattle.fixed_point.proofs.Told.{places_fewest, quotient_again, some_places, product_quotient}

-- ---- how long a text is

-- a sign and what comes after it
sign_length : (text : List ℕ) → (if is_negative text then 1 else 0) + length (without 45 text) ≤ length text
sign_length [] = omega arith
sign_length (c ∷ text) = by_test (nat_eq c 45)
  where
    by_test : (b : Bool) → (if b then 1 else 0) + length (if b then text else c ∷ text) ≤ suc (length text)
    by_test true = omega arith
    by_test false = omega arith

-- digits and what comes after them
digits_length : (text : List ℕ) → length (leading_digits text) + length (after_digits text) ≤ length text
digits_length text =
    omega (arith, length-take (prefix_len is_ascii_digit text) text, length-drop (length (leading_digits text)) text)

-- a point and digits after it
point_length : (text : List ℕ) → 0 < length (digits_behind text) → 1 + length (digits_behind text) ≤ length text
point_length [] some = absurd (omega arith)
point_length (c ∷ text) some = by_test (nat_eq c 46) some
  where
    by_test : (b : Bool) → 0 < length (if b then leading_digits text else [])
        → 1 + length (if b then leading_digits text else []) ≤ suc (length text)
    by_test true some = omega (arith, digits_length text)
    by_test false some = absurd (omega arith)

-- the sign of a number's text
sign_size : (m : ℤ) → length (sign_of m) ≡ (if int_lt m (pos 0) then 1 else 0)
sign_size (pos n) = by_test (nat_lt n 0) (not_below n)
  where
    not_below : (n : ℕ) → nat_lt n 0 ≡ false
    not_below n = grind (arith, nat_tests)

    by_test : (b : Bool) → b ≡ false → ◌≡◌ {A = ℕ} 0 (if b then 1 else 0)
    by_test true e = absurd (false≢true (sym e))
    by_test false e = refl
sign_size (negsuc n) = refl

-- the point and the digits after it
behind_size : (n frac most : ℕ) → (0 < places_of n frac → 1 + places_of n frac ≤ most)
    → length (behind_point n frac) ≤ most
behind_size n frac most room = by_test (nat_eq (n % 2 ^ frac) 0) refl
  where
    more_by_test : (x : ℕ) → nat_eq x 0 ≡ false → x ≢ 0
    more_by_test x e = grind (arith, nat_tests)

    by_test : (b : Bool) → nat_eq (n % 2 ^ frac) 0 ≡ b → length (if b then [] else 46 ∷ fraction_digits n frac) ≤ most
    by_test true e = omega arith
    by_test false e = omega (
      arith,
      room (some_places n frac (more_by_test (n % 2 ^ frac) e)),
      length-last_digits (places_of n frac) (n * 10 ^ places_of n frac / 2 ^ frac),
    )

-- ---- the shortest text

-- the digits before the point tell the whole part
whole_value : (m : ℤ) (frac : ℕ) (other : List ℕ) → TellsExactly m frac other
    → unsigned_abs m / 2 ^ frac ≡ value_after 0 (whole_digits other)
whole_value m frac other tells =
    let n = unsigned_abs m in
    let whole = value_after 0 (whole_digits other) in
    let behind = behind_digits other in
    let bounds = value_bounds whole behind (AreDigits-from_pass behind (AllPass-behind (after_whole other))) in
    let told : value_after 0 (whole_digits other ++ behind) ≡ n * 10 ^ length behind / 2 ^ frac =
    product_quotient _ _ _ (pow_pos frac) tells.value in
    let all : value_after whole behind ≡ n * 10 ^ length behind / 2 ^ frac =
    sym (value_after-append 0 (whole_digits other) behind) ∙ told in
    sym (quotient_again n (2 ^ frac) (10 ^ length behind) (ten_some (length behind)))
    ∙ ap (λ (x : ℕ). x / 10 ^ length behind) (sym all)
    ∙ whole_by_bounds whole (value_after whole behind) (10 ^ length behind) bounds.0 bounds.1

-- so there are at least as many of them
whole_length : (m : ℤ) (frac : ℕ) (other : List ℕ) → unsigned_abs m < 2 ^ 128 → TellsExactly m frac other
    → 0 < length (whole_digits other)
    → length (decimal (unsigned_abs m / 2 ^ frac)) ≤ length (whole_digits other)
whole_length m frac other fits tells some =
    let n = unsigned_abs m in
    let digits = whole_digits other in
    let bounds = value_bounds 0 digits (AreDigits-from_pass digits (AllPass-leading (without 45 other))) in
    length-decimal-le_wide (length digits) (n / 2 ^ frac) some
    (omega (arith, whole_value m frac other tells, bounds.1)) (omega (arith, div-le_self n (2 ^ frac)))

-- a number has a digit before the point
whole_some : (text : List ℕ) → is_number text ≡ true → 0 < length (whole_digits text)
whole_some text number = first_test (length (whole_digits text)) _ _ number
  where
    first_test : (n : ℕ) (p q : Bool) → (nat_lt 0 n && p && q) ≡ true → 0 < n
    first_test n p q e = grind (arith, nat_tests)

-- no text that tells the number is shorter
pub decimal_text-shortest : (m : ℤ) (frac : ℕ) → unsigned_abs m < 2 ^ 128 → IsShortest m frac (decimal_text m frac)
unfolding decimal_text
decimal_text-shortest m frac fits = λ other tells.
    let n = unsigned_abs m in
    let whole = whole_length m frac other fits tells (whole_some other tells.number) in
    let places = places_fewest m frac other tells in
    let room : 0 < places_of n frac → 1 + places_of n frac ≤ length (after_whole other) =
    λ some. omega (arith, point_length (after_whole other) (omega arith)) in
    let sign : length (sign_of m) ≡ (if is_negative other then 1 else 0) =
    sign_size m ∙ ap (λ (b : Bool). if b then 1 else 0) (sym tells.sign) in
    let size : length (decimal_text m frac) ≡ length (sign_of m) + length (decimal (n / 2 ^ frac)) + length (behind_point n frac) =
    length-append (sign_of m ++ decimal (n / 2 ^ frac)) (behind_point n frac)
    ∙ ap (λ (x : ℕ). x + length (behind_point n frac)) (length-append (sign_of m) (decimal (n / 2 ^ frac))) in
    omega (arith, size, sign, sign_length other, digits_length (without 45 other), behind_size n frac (length (after_whole other)) room)
