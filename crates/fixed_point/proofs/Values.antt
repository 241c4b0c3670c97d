-- The number that digits tell.
use Rattle.std.proofs.Common.{◌≡◌, ℕ, ◌+◌, ◌-◌, ◌*◌, ◌^◌, ◌<◌, ◌≤◌, Bool, true, false, nat_lt, if◌then◌else◌, length}
use Rattle.std.proofs.Common.{drop, get_or, List, [], ◌∷◌, ◌++◌, Option, Err, refl, sym, ap, ◌∙◌, length-append, arith}
use Rattle.std.proofs.lemmas.Nat.{mul-le, pow-add}
use Rattle.std.proofs.lemmas.List.{at_drop_more, at_drop_all, get_or-take}
use Rattle.std.proofs.lemmas.List.Sums.{prefix_len_passes}
use Rattle.std.proofs.lemmas.List.Folds.{length-prefix_len}
use Rattle.std.specs.List.{prefix_len, AllPass}
use Rattle.std.proofs.lemmas.Bool.Decides.{nat_tests}
use Rattle.std.specs.Char.{is_ascii_digit}
use Rattle.fixed_point.specs.Reading.{value_after, number_told, number_of, frac_of}
use Rattle.fixed_point.specs.Reading.{leading_digits, digits_behind, starts_with}
use Rattle.fixed_point.specs.declared.reading.NumFault.TheVariants.{TooLong}
use Rattle.fixed_point.proofs.Powers.{ten_some, ten_power-le}
use Rattle.fixed_point.proofs.Digits.{power_more}

-- a digit is from 48 to 57
pub digit_within : (x : ℕ) → is_ascii_digit x ≡ true → x ≤ 57
digit_within x e = grind (arith, nat_tests)

-- the next digit goes after the number so far
pub value_after-step : (n : ℕ) (digits : List ℕ) (i : ℕ) → i < length digits
    → value_after (n * 10 + (get_or digits i 0 - 48)) (drop (i + 1) digits) ≡ value_after n (drop i digits)
unfolding value_after
value_after-step n digits i below = sym (at_drop_more (value_after n) digits i 0 below)

-- after the last digit it is the value
pub value_after-last : (n : ℕ) (digits : List ℕ) (i : ℕ) → length digits ≤ i → value_after n (drop i digits) ≡ n
unfolding value_after
value_after-last n digits i past = at_drop_all (value_after n) digits i past

-- the room of the number so far holds the next digit
pub room_more : (v d k m room : ℕ) → d ≤ 9 → k ≡ m + 1 → (v + 1) * 10 ^ k ≤ room → (v * 10 + d + 1) * 10 ^ m ≤ room
room_more v d k m room small next fits =
    omega (
      arith,
      mul-le (v * 10 + d + 1) (10 ^ m) ((v + 1) * 10) (10 ^ m) (omega arith) (omega arith),
      power_more (v + 1) 10 m,
      ap (λ (x : ℕ). (v + 1) * 10 ^ x) next,
    )

-- what has room is below it
pub room_below : (v k room : ℕ) → (v + 1) * 10 ^ k ≤ room → v < room
room_below v k room fits = omega (arith, mul-le (v + 1) 1 (v + 1) (10 ^ k) (omega arith) (ten_some k))

-- digits after digits
pub value_after-append : (n : ℕ) (front back : List ℕ)
    → value_after n (front ++ back) ≡ value_after (value_after n front) back
unfolding value_after
value_after-append n [] back = refl
value_after-append n (digit ∷ front) back = value_after-append (n * 10 + (digit - 48)) front back

-- after w digits there is room for b more, where they are at most 36 together
pub room_behind : (v w b : ℕ) → v < (0 + 1) * 10 ^ w → w + b ≤ 36 → (v + 1) * 10 ^ b ≤ 10 ^ 36
room_behind v w b below few =
    omega (arith, mul-le (v + 1) (10 ^ b) (10 ^ w) (10 ^ b) (omega arith) (omega arith), pow-add 10 w b, ten_power-le (w + b) 36 few)

-- the number of at most 36 digits
pub number_told-is : (negative : Bool) (whole behind : List ℕ) (bits : Option ℕ) → length whole + length behind ≤ 36
    → number_told negative whole behind bits ≡ number_of negative (value_after (value_after 0 whole) behind)
    (length behind)
    (frac_of bits (value_after (value_after 0 whole) behind) (length behind))
number_told-is negative whole behind bits few =
    let short : nat_lt 36 (length (whole ++ behind)) ≡ false =
    not_over (length (whole ++ behind)) (omega (arith, length-append whole behind)) in
    ap (λ (b : Bool). if b then Err TooLong else number_of negative (value_after 0 (whole ++ behind)) (length behind) (frac_of bits (value_after 0 (whole ++ behind)) (length behind))) short
    ∙ ap (λ (u : ℕ). number_of negative u (length behind) (frac_of bits u (length behind))) (value_after-append 0 whole behind)
  where
    not_over : (n : ℕ) → n ≤ 36 → nat_lt 36 n ≡ false
    not_over n few = grind (arith, nat_tests)

-- the digits at the front are digits
pub AllPass-leading : (text : List ℕ) → AllPass is_ascii_digit (leading_digits text)
AllPass-leading text = λ k d below.
    let inside : k < prefix_len is_ascii_digit text = omega (arith, length-prefix_len is_ascii_digit text) in
    ap is_ascii_digit (get_or-take (prefix_len is_ascii_digit text) text k d inside)
    ∙ prefix_len_passes is_ascii_digit text k d inside

-- and so are those after a point
pub AllPass-behind : (text : List ℕ) → AllPass is_ascii_digit (digits_behind text)
AllPass-behind text = by_point (starts_with 46 text)
  where
    by_point : (b : Bool) → AllPass is_ascii_digit (if b then leading_digits (drop 1 text) else [])
    by_point true = AllPass-leading (drop 1 text)
    by_point false = λ k d below. absurd (omega arith)
