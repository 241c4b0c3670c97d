-- Short whole numbers are what the reader of decimal text makes of them.
use Rattle.std.proofs.Common.{◌≡◌, ℕ, zero, suc, ◌+◌, ◌-◌, ◌*◌, ◌/◌, ◌%◌, ◌^◌, ◌<◌, ◌≤◌, min, ℤ, pos}
use Rattle.std.proofs.Common.{neg_ℤ, int_le, ◌*ℤ◌, Bool, true, false, not, nat_eq, nat_lt, nat_le, ◌&&◌}
use Rattle.std.proofs.Common.{◌||◌, if◌then◌else◌, List, [], ◌∷◌, ◌++◌, length, drop, get_or, Option, Some}
use Rattle.std.proofs.Common.{None, Result, Ok, Err, refl, sym, ap, ◌∙◌, subst, ⊎_elim, div-one, arith}
use Rattle.std.proofs.Math.Nat.{mod-one}
use Rattle.std.proofs.lemmas.Bool.{cases_lt}
use Rattle.std.proofs.lemmas.Bool.Decides.{nat_tests}
use Rattle.std.proofs.lemmas.Int.{ints}
use Rattle.std.proofs.lemmas.Nat.{mul-le, pow_pos}
use Rattle.std.proofs.lemmas.List.{append-nil}
use Rattle.std.proofs.lemmas.List.Sums.{prefix_len_is}
use Rattle.std.specs.List.{prefix_len, list_any}
use Rattle.std.specs.Char.{is_ascii_digit}
use Rattle.fixed_point.specs.Numbers.{floored, is_whole}
use Rattle.fixed_point.specs.Reading.{starts_with, without, leading_digits, after_digits, digits_behind, rest_behind}
use Rattle.fixed_point.specs.Reading.{is_negative, whole_digits, after_whole, is_bits, value_after, value_of, is_exact}
use Rattle.fixed_point.specs.Reading.{exact_frac, steps_within, signed_number, number_of, number_told, number_read}
use Rattle.fixed_point.specs.declared.num.Num.{Num}
use Rattle.fixed_point.specs.declared.reading.NumFault.{NumFault}
use Rattle.fixed_point.specs.declared.reading.NumFault.TheVariants.{NotNumber}
use Rattle.fixed_point.specs.declared.rounding.TheConstants.{READ_LIMIT}
use Rattle.fixed_point.specs.declared.scale.Scale.{Scale}
use Rattle.fixed_point.proofs.Digits.{first_from-here, test_true}
use Rattle.fixed_point.proofs.Numerals.{AreDigits, front_digits, back_digits, first_digit, other_digits, value_bounds}
use Rattle.fixed_point.proofs.Floors.{is_whole-raised, floored-raised}
use Rattle.fixed_point.proofs.Powers.{ten_power-le, power-le}
use Rattle.fixed_point.proofs.Values.{number_told-is}
use Rattle.fixed_point.specs.Scales.{exact_mantissa, is_in_range}
use Rattle.event_file.specs.InputValues.{mantissa_of_text, mantissa_at_scale}
use Rattle.event_file.specs.ShortNumbers.{are_few_digits, short_value, signed, whole_number, is_within}

-- ---- few digits

-- what few digits are
record AreFew (text : List ℕ) : Type 0 where
  some : 0 < length text
  few : length text ≤ 9
  all : AreDigits text

-- the test tells them
few_parts : (text : List ℕ) → are_few_digits text ≡ true → AreFew text
few_parts text e = record {
  some = some (length text) (prefix_len is_ascii_digit text) e;
  few = few (length text) (prefix_len is_ascii_digit text) e;
  all = all (length text) (prefix_len is_ascii_digit text) e;
}
  where
    some : (n k : ℕ) → (nat_lt 0 n && nat_le n 9 && nat_eq k n) ≡ true → 0 < n
    some n k e = grind (arith, nat_tests)

    few : (n k : ℕ) → (nat_lt 0 n && nat_le n 9 && nat_eq k n) ≡ true → n ≤ 9
    few n k e = grind (arith, nat_tests)

    all : (n k : ℕ) → (nat_lt 0 n && nat_le n 9 && nat_eq k n) ≡ true → k ≡ n
    all n k e = grind (arith, nat_tests)

-- all bytes are digits
pub few_value : (text : List ℕ) (v : ℕ) → 0 < length text → length text ≤ 9
    → ((k : ℕ) → k < length text → is_ascii_digit (get_or text k 0) ≡ true) → v ≡ value_of text → Some v ≡ short_value text
few_value text v some few passed is =
    let all : prefix_len is_ascii_digit text ≡ length text =
    prefix_len_is is_ascii_digit text (length text) 0 (omega arith) passed (λ past. absurd (omega arith)) in
    sym (ap (λ (b : Bool). if b then Some (value_of text) else None) (are (length text) (prefix_len is_ascii_digit text) some few all)
    ∙ ap Some (sym is))
  where
    are : (n k : ℕ) → 0 < n → n ≤ 9 → k ≡ n → (nat_lt 0 n && nat_le n 9 && nat_eq k n) ≡ true
    are n k some few all = grind (arith, nat_tests)

-- a byte is none
pub no_value : (text : List ℕ) (k : ℕ) → k < length text → ((j : ℕ) → j < k → is_ascii_digit (get_or text j 0) ≡ true)
    → is_ascii_digit (get_or text k 0) ≡ false → None ≡ short_value text
no_value text k within passed fails =
    let front : prefix_len is_ascii_digit text ≡ k = prefix_len_is is_ascii_digit text k 0 (omega arith) passed (λ _. fails) in
    sym (ap (λ (b : Bool). if b then Some (value_of text) else None)
    (are_not (length text) (prefix_len is_ascii_digit text) (omega (arith, front))))
  where
    are_not : (n k : ℕ) → k < n → (nat_lt 0 n && nat_le n 9 && nat_eq k n) ≡ false
    are_not n k below = grind (arith, nat_tests)

-- one byte more that is a digit
pub passed_more : (text : List ℕ) (i : ℕ) → ((k : ℕ) → k < i → is_ascii_digit (get_or text k 0) ≡ true)
    → is_ascii_digit (get_or text i 0) ≡ true → (k : ℕ) → k < i + 1 → is_ascii_digit (get_or text k 0) ≡ true
passed_more text i passed here k below =
    ⊎_elim (λ before. passed k before) (λ past. let same : i ≡ k = omega arith in subst (λ (j : ℕ). is_ascii_digit (get_or text j 0) ≡ true) same here)
    (cases_lt k i)

-- ---- the number of a text of few digits

-- what the reader makes of the digits in front and what comes after them
is_number_by : Bool → List ℕ → List ℕ → Bool
is_number_by negative whole rest =
    nat_lt 0 (length whole) && (if starts_with 46 rest then nat_lt 0 (length (digits_behind rest)) else true)
    && (if starts_with 113 (rest_behind rest) then not negative && is_bits (drop 1 (rest_behind rest)) else nat_eq (length (rest_behind rest)) 0)

number_by : Bool → List ℕ → List ℕ → Result Num NumFault
number_by negative whole rest =
    if is_number_by negative whole rest
    then number_told negative whole (digits_behind rest)
    (if starts_with 113 (rest_behind rest) then Some (value_of (drop 1 (rest_behind rest))) else None)
    else Err NotNumber

-- this is how it is read
number_read-by : (text : List ℕ) → number_read text ≡ number_by (is_negative text) (whole_digits text) (after_whole text)
unfolding number_read number_by is_number_by
number_read-by text = refl

-- a whole number is exact without bits after the point
exact_whole : (u : ℕ) → exact_frac u 0 ≡ Some 0
exact_whole u =
    ap (λ (x : ℕ). if nat_lt x 33 then Some x else None)
    (first_from-here (is_exact u 0) 0 33 (test_true ((u * 1) % 1) (mod-one (u * 1))))

-- its steps are the number
whole_steps : (u : ℕ) → u < 10 ^ 9 → steps_within u 0 0 ≡ Some u
whole_steps u fits =
    let same : u * 1 / 1 ≡ u = omega (arith, div-one (u * 1)) in
    ap (λ (x : ℕ). if nat_lt x READ_LIMIT then Some x else None) same
    ∙ ap (λ (b : Bool). if b then Some u else None) (below u (omega arith))
  where
    below : (u : ℕ) → u < READ_LIMIT → nat_lt u READ_LIMIT ≡ true
    below u less = grind (arith, nat_tests)

-- so it is a whole number
number_of-whole : (negative : Bool) (u : ℕ) → u < 10 ^ 9 → number_of negative u 0 (exact_frac u 0) ≡ Ok (whole_number negative u)
number_of-whole negative u fits =
    ap (λ (f : Option ℕ). number_of negative u 0 f) (exact_whole u)
    ∙ ap (λ (s : Option ℕ). signed_number negative 0 s) (whole_steps u fits)

-- the number that few digits tell
told_whole : (negative : Bool) (digits : List ℕ) → AreFew digits
    → number_told negative digits [] None ≡ Ok (whole_number negative (value_of digits))
unfolding value_after
told_whole negative digits d =
    let bounds = value_bounds 0 digits d.all in
    let fits : value_of digits < 10 ^ 9 = omega (arith, bounds.1, ten_power-le (length digits) 9 d.few) in
    number_told-is negative digits [] None (omega (arith, d.few)) ∙ number_of-whole negative (value_of digits) fits

-- with nothing after them
number_by-few : (negative : Bool) (digits : List ℕ) → AreFew digits
    → number_by negative digits [] ≡ Ok (whole_number negative (value_of digits))
unfolding number_by is_number_by
number_by-few negative digits d =
    ap (λ (b : Bool). if b then number_told negative digits [] None else Err NotNumber) (good (length digits) d.some)
    ∙ told_whole negative digits d
  where
    good : (n : ℕ) → 0 < n → (nat_lt 0 n && true && true) ≡ true
    good n some = grind (arith, nat_tests)

-- the number that a text of few digits denotes
number_read-few : (text : List ℕ) → AreFew (without 45 text)
    → number_read text ≡ Ok (whole_number (is_negative text) (value_of (without 45 text)))
number_read-few text d =
    let digits = without 45 text in
    let end : digits ≡ digits ++ [] = sym (append-nil digits) in
    let front : whole_digits text ≡ digits = ap leading_digits end ∙ front_digits digits [] d.all refl in
    let back : after_whole text ≡ [] = ap after_digits end ∙ back_digits digits [] d.all refl in
    number_read-by text
    ∙ ap (λ (x : List ℕ). number_by (is_negative text) x (after_whole text)) front
    ∙ ap (λ (x : List ℕ). number_by (is_negative text) digits x) back
    ∙ number_by-few (is_negative text) digits d

-- ---- it has no q

-- no digit is one
no_q : (digits : List ℕ) → AreDigits digits → list_any (λ b. nat_eq b 113) digits ≡ false
no_q [] all = refl
no_q (d ∷ digits) all =
    ap (λ (b : Bool). b || list_any (λ b. nat_eq b 113) digits) (is_other d (first_digit d digits all))
    ∙ no_q digits (other_digits d digits all)
  where
    is_other : (d : ℕ) → is_ascii_digit d ≡ true → nat_eq d 113 ≡ false
    is_other d e = grind (arith, nat_tests)

-- nor is a minus sign
no_q-signed : (text : List ℕ) → AreDigits (without 45 text) → list_any (λ b. nat_eq b 113) text ≡ false
no_q-signed [] all = refl
no_q-signed (b ∷ text) all = by_sign (nat_eq b 45) refl all
  where
    by_sign : (minus : Bool) → nat_eq b 45 ≡ minus → AreDigits (if minus then text else b ∷ text)
        → list_any (λ b. nat_eq b 113) (b ∷ text) ≡ false
    by_sign true e all = let is : b ≡ 45 = grind (arith, nat_tests) in rw is (no_q text all)
    by_sign false e all = no_q (b ∷ text) all

-- ---- the mantissa of a short text

-- what a short number's digits are
short_parts : (text : List ℕ) (n : ℕ) → Some n ≡ short_value text → AreFew text × (n ≡ value_of text)
short_parts text n is = by_few (are_few_digits text) refl is
  where
    by_few : (b : Bool) → are_few_digits text ≡ b → Some n ≡ (if b then Some (value_of text) else None) → AreFew text × (n ≡ value_of text)
    by_few true e is = (few_parts text e, cc)
    by_few false e is = absurd (cc)

-- the mantissa that a short text spells
pub short_is_read : (scale : Scale) (text : List ℕ) (negative : Bool) (n : ℕ) → negative ≡ is_negative text
    → Some n ≡ short_value (without 45 text) → mantissa_of_text scale text ≡ exact_mantissa (whole_number negative n) scale
short_is_read scale text negative n sign is =
    let d = short_parts (without 45 text) n is in
    ap (λ (b : Bool). if b then None else mantissa_at_scale scale (number_read text)) (no_q-signed text d.0.all)
    ∙ ap (λ (r : Result Num NumFault). mantissa_at_scale scale r) (number_read-few text d.0)
    ∙ ap (λ (b : Bool). exact_mantissa (whole_number b (value_of (without 45 text))) scale) (sym sign)
    ∙ ap (λ (x : ℕ). exact_mantissa (whole_number negative x) scale) (sym d.1)

-- ---- whether a scale has it

-- by the first number that is past the range
within_at : (sign negative : Bool) (past s : ℕ) → 1 ≤ past
    → (int_le (if sign then neg_ℤ (pos past) else pos 0) (signed negative s) && int_le (signed negative s) (pos (past - 1)))
    ≡ is_within sign negative s past
within_at true true past s some = grind (arith, ints, nat_tests)
within_at true false past s some = grind (arith, ints, nat_tests)
within_at false true past s some = grind (arith, ints, nat_tests)
within_at false false past s some = grind (arith, ints, nat_tests)

-- a limit of 62 bits is as good for what has fewer
limit_of : (negative sign : Bool) (bits s : ℕ) → s < 2 ^ 62 → is_within sign negative s (2 ^ min bits 62) ≡ is_within sign negative s (2 ^ bits)
limit_of negative sign bits s short = ⊎_elim below above (cases_lt bits 62)
  where
    below : bits < 62 → is_within sign negative s (2 ^ min bits 62) ≡ is_within sign negative s (2 ^ bits)
    below less = let same : min bits 62 ≡ bits = omega arith in ap (λ (b : ℕ). is_within sign negative s (2 ^ b)) same

    both : (past : ℕ) → 2 ^ 62 ≤ past → (n g : Bool) → is_within g n s (2 ^ 62) ≡ is_within g n s past
    both past far true true = grind (arith, nat_tests)
    both past far true false = refl
    both past far false g = grind (arith, nat_tests)

    above : 62 ≤ bits → is_within sign negative s (2 ^ min bits 62) ≡ is_within sign negative s (2 ^ bits)
    above more =
        let same : min bits 62 ≡ 62 = omega arith in
        ap (λ (b : ℕ). is_within sign negative s (2 ^ b)) same ∙ both (2 ^ bits) (power-le 62 bits more) negative sign

-- the range of a scale
range_of : (sign negative : Bool) (width bits s : ℕ) → bits ≡ (if sign then width - 1 else width) → s < 2 ^ 62
    → (int_le (if sign then neg_ℤ (pos (2 ^ (width - 1))) else pos 0) (signed negative s)
    && int_le (signed negative s) (if sign then pos (2 ^ (width - 1) - 1) else pos (2 ^ width - 1)))
    ≡ is_within sign negative s (2 ^ min bits 62)
range_of true negative width bits s are short =
    within_at true negative (2 ^ (width - 1)) s (pow_pos (width - 1))
    ∙ ap (λ (b : ℕ). is_within true negative s (2 ^ b)) (sym are) ∙ sym (limit_of negative true bits s short)
range_of false negative width bits s are short =
    within_at false negative (2 ^ width) s (pow_pos width)
    ∙ ap (λ (b : ℕ). is_within false negative s (2 ^ b)) (sym are) ∙ sym (limit_of negative false bits s short)

-- the steps of a short number at a scale
pub short_steps : (n frac : ℕ) → n < 10 ^ 9 → frac ≤ 32 → n * 2 ^ frac < 2 ^ 62
short_steps n frac short within =
    omega (arith, mul-le n (2 ^ frac) (10 ^ 9) (2 ^ 32) (omega arith) (power-le frac 32 within))

-- a sign goes through a product
signed_times : (negative : Bool) (n m : ℕ) → signed negative n *ℤ pos m ≡ signed negative (n * m)
signed_times false n m = refl
signed_times true zero m = let none : 0 * m ≡ 0 = omega arith in rw none refl
signed_times true (suc n) m = grind (arith, ints)

-- the mantissa of a short number
short_mantissa-is : (scale : Scale) (negative : Bool) (n bits : ℕ) → n < 10 ^ 9 → bits ≡ (if scale.signed then scale.width - 1 else scale.width)
    → exact_mantissa (whole_number negative n) scale
    ≡ (if is_within scale.signed negative (n * 2 ^ scale.frac) (2 ^ min bits 62) then Some (signed negative (n * 2 ^ scale.frac)) else None)
unfolding exact_mantissa
short_mantissa-is scale negative n bits short are =
    let a = whole_number negative n in
    let s = n * 2 ^ scale.frac in
    let zero_le : 0 ≤ scale.frac = omega arith in
    let all : scale.frac - 0 ≡ scale.frac = omega arith in
    let whole : is_whole a scale.frac ≡ true = is_whole-raised a scale.frac zero_le in
    let floor : floored a scale.frac ≡ signed negative s = floored-raised a scale.frac zero_le
    ∙ ap (λ (e : ℕ). signed negative n *ℤ pos (2 ^ e)) all ∙ signed_times negative n (2 ^ scale.frac) in
    ap (λ (b : Bool). if b && is_in_range scale (floored a scale.frac) then Some (floored a scale.frac) else None) whole
    ∙ ap (λ (z : ℤ). if is_in_range scale z then Some z else None) floor
    ∙ ap (λ (b : Bool). if b then Some (signed negative s) else None)
    (range_of scale.signed negative scale.width bits s are (short_steps n scale.frac short scale.frac_within))

-- by what is computed of it
pub mantissa_by : (scale : Scale) (negative : Bool) (n bits one limit : ℕ) (within : Bool) → n < 10 ^ 9
    → bits ≡ (if scale.signed then scale.width - 1 else scale.width) → one ≡ 2 ^ scale.frac → limit ≡ 2 ^ min bits 62
    → within ≡ is_within scale.signed negative (n * one) limit
    → exact_mantissa (whole_number negative n) scale ≡ (if within then Some (signed negative (n * one)) else None)
mantissa_by scale negative n bits one limit within short are one_is limit_is within_is =
    short_mantissa-is scale negative n bits short are
    ∙ ap (λ (x : ℕ). if is_within scale.signed negative (n * x) (2 ^ min bits 62) then Some (signed negative (n * x)) else None) (sym one_is)
    ∙ ap (λ (y : ℕ). if is_within scale.signed negative (n * one) y then Some (signed negative (n * one)) else None) (sym limit_is)
    ∙ ap (λ (b : Bool). if b then Some (signed negative (n * one)) else None) (sym within_is)
