-- The decimal text of a number tells it exactly, with the fewest digits after the point.
use Rattle.std.proofs.Common.{◌≡◌, ◌≢◌, ℕ, zero, suc, ◌+◌, ◌*◌, ◌/◌, ◌%◌, ◌^◌, ◌<◌, ◌≤◌, ℤ, pos, negsuc, int_lt}
use Rattle.std.proofs.Common.{unsigned_abs, Bool, true, false, not, cond, nat_eq, nat_lt, ◌==◌, ◌&&◌, if◌then◌else◌}
use Rattle.std.proofs.Common.{List, [], ◌∷◌, ◌++◌, length, drop, decimal, refl, sym, ap, ◌∙◌, subst, ⊎_elim, arith}
use Rattle.std.proofs.Math.Nat.{div-div-eq-div-mul, div-le_self}
use Rattle.std.proofs.lemmas.Nat.{div-mul-add, div-add-mod'}
use Rattle.std.proofs.lemmas.Bool.{false≢true, cases_eq}
use Rattle.std.proofs.lemmas.Bool.Decides.{nat_tests}
use Rattle.std.proofs.lemmas.List.{append-nil}
use Rattle.std.specs.Char.{is_ascii_digit}
use Rattle.fixed_point.specs.Text.{first_from, last_digits, ends_within, places_of}
use Rattle.fixed_point.specs.Text.{fraction_digits, behind_point, decimal_text}
use Rattle.fixed_point.specs.Reading.{starts_with, without, leading_digits, after_digits, digits_behind}
use Rattle.fixed_point.specs.Reading.{rest_behind, is_negative, whole_digits, after_whole, has_point, behind_digits}
use Rattle.fixed_point.specs.Reading.{after_behind, has_bits, is_bits, value_after, value_of, is_number}
use Rattle.fixed_point.specs.Told.{TellsExactly}
use Rattle.fixed_point.proofs.Digits.{first_from-here, ends_at_last, length-last_digits, last_digits-none, test_true}
use Rattle.fixed_point.proofs.Powers.{ten_some}
use Rattle.fixed_point.proofs.Values.{value_after-append}
use Rattle.fixed_point.proofs.Numerals.{AreDigits, first_digit, IsNumeral, numeral_decimal}
use Rattle.fixed_point.proofs.Numerals.{last-AreDigits, value_last, front_digits, back_digits}
use Rattle.fixed_point.proofs.Floors.{nothing_over}

-- ---- a fraction's digits

-- the first that passes, or the last, passes where the last does
first_from-passes : (test : ℕ → Bool) (k n last : ℕ) → last ≡ k + n → test last ≡ true
    → test (first_from test k n) ≡ true
unfolding first_from
first_from-passes test k zero last last_is passes = let e : last ≡ k = omega arith in ap test (sym e) ∙ passes
first_from-passes test k (suc n) last last_is passes =
    by_test (test k) refl (first_from-passes test (k + 1) n last (omega arith) passes)
  where
    by_test : (b : Bool) → test k ≡ b → test (first_from test (k + 1) n) ≡ true
        → test (cond b k (first_from test (k + 1) n)) ≡ true
    by_test true here later = here
    by_test false here later = later

-- none before it passes
first_from-least : (test : ℕ → Bool) (k n j : ℕ) → k ≤ j → test j ≡ true → first_from test k n ≤ j
unfolding first_from
first_from-least test k zero j from passes = from
first_from-least test k (suc n) j from passes =
    by_test (test k) refl (λ later. first_from-least test (k + 1) n j later passes)
  where
    by_test : (b : Bool) → test k ≡ b → (k + 1 ≤ j → first_from test (k + 1) n ≤ j)
        → cond b k (first_from test (k + 1) n) ≤ j
    by_test true here later = from
    by_test false here later =
        later (⊎_elim (λ same. absurd (false≢true (sym here ∙ ap test same ∙ passes))) (λ other. omega arith) (cases_eq k j))

-- the places of a fraction are enough
places_enough : (n frac : ℕ) → (n * 10 ^ places_of n frac) % 2 ^ frac ≡ 0
places_enough n frac =
    zero_by_test ((n * 10 ^ places_of n frac) % 2 ^ frac)
    (first_from-passes (ends_within n frac) 0 frac frac (omega arith) (test_true ((n * 10 ^ frac) % 2 ^ frac) (ends_at_last n frac)))
  where
    zero_by_test : (x : ℕ) → nat_eq x 0 ≡ true → x ≡ 0
    zero_by_test x e = grind (arith, nat_tests)

-- a product with t, by s and t, is the number by s
pub quotient_again : (n s t : ℕ) → 0 < t → (n * t / s) / t ≡ n / s
quotient_again n s t some =
    let swap : s * t ≡ t * s = omega arith in
    let same : n * t ≡ n * t + 0 = omega arith in
    div-div-eq-div-mul (n * t) s t ∙ ap (λ (x : ℕ). n * t / x) swap ∙ sym (div-div-eq-div-mul (n * t) t s)
    ∙ ap (λ (x : ℕ). x / s) (ap (λ (x : ℕ). x / t) same ∙ div-mul-add n t 0 some)

-- a number whose rest is 0 is a product
product_back : (u s : ℕ) → u % s ≡ 0 → u / s * s ≡ u
product_back u s none = omega (arith, div-add-mod' u s)

-- a number whose product is known
pub product_quotient : (v u s : ℕ) → 0 < s → v * s ≡ u → v ≡ u / s
product_quotient v u s some e =
    let same : u ≡ v * s + 0 = omega (arith, e) in
    sym (ap (λ (x : ℕ). x / s) same ∙ div-mul-add v s 0 some)

-- the whole digits and a fraction's tell the number exactly
digits_tell : (n frac : ℕ) (whole : List ℕ) → value_after 0 whole ≡ n / 2 ^ frac
    → value_after 0 (whole ++ fraction_digits n frac) * 2 ^ frac ≡ n * 10 ^ length (fraction_digits n frac)
digits_tell n frac whole whole_is =
    let p = places_of n frac in
    let u = n * 10 ^ p / 2 ^ frac in
    let back : u / 10 ^ p ≡ n / 2 ^ frac = quotient_again n (2 ^ frac) (10 ^ p) (ten_some p) in
    let told : value_after 0 (whole ++ fraction_digits n frac) ≡ u =
    value_after-append 0 whole (fraction_digits n frac)
    ∙ ap (λ (x : ℕ). value_after x (fraction_digits n frac)) whole_is
    ∙ value_last (n / 2 ^ frac) p u ∙ ap (λ (x : ℕ). x * 10 ^ p + u % 10 ^ p) (sym back) ∙ div-add-mod' u (10 ^ p) in
    ap (λ (x : ℕ). x * 2 ^ frac) told ∙ product_back (n * 10 ^ p) (2 ^ frac) (places_enough n frac)
    ∙ ap (λ (x : ℕ). n * 10 ^ x) (sym (length-last_digits p u))

-- ---- how the text is read

-- is_number by the parts of a text
by_parts : List ℕ → Bool → List ℕ → List ℕ → Bool → Bool
by_parts whole point behind rest negative =
    nat_lt 0 (length whole) && (if point then nat_lt 0 (length behind) else true)
    && (if starts_with 113 rest then not negative && is_bits (drop 1 rest) else length rest == 0)

-- a text is a number by its parts
is_number-parts : (text : List ℕ)
    → is_number text ≡ by_parts (whole_digits text) (has_point text) (behind_digits text) (after_behind text)
    (is_negative text)
unfolding by_parts
is_number-parts text = refl

-- with nothing after them, and digits after a point, they are those of a number
by_parts-good : (whole : List ℕ) (point : Bool) (behind : List ℕ) (negative : Bool) → 0 < length whole
    → (point ≡ true → 0 < length behind)
    → by_parts whole point behind [] negative ≡ true
unfolding by_parts
by_parts-good whole true behind negative some_whole some_behind =
    both (length whole) (length behind) some_whole (some_behind refl)
  where
    both : (m n : ℕ) → 0 < m → 0 < n → (nat_lt 0 m && nat_lt 0 n && true) ≡ true
    both m n h k = grind (arith, nat_tests)
by_parts-good whole false behind negative some_whole some_behind = one (length whole) some_whole
  where
    one : (m : ℕ) → 0 < m → (nat_lt 0 m && true && true) ≡ true
    one m h = grind (arith, nat_tests)

-- the parts of a text that is digits and then something else
record HasDigits (text whole behind : List ℕ) : Type 0 where
  number : is_number text ≡ true
  no_bits : has_bits text ≡ false
  whole_is : whole_digits text ≡ whole
  behind_is : behind_digits text ≡ behind

-- a whole number
has_digits-whole : (text whole : List ℕ) → without 45 text ≡ whole ++ [] → AreDigits whole → 0 < length whole
    → HasDigits text whole []
has_digits-whole text whole body all some =
    let front : whole_digits text ≡ whole = ap leading_digits body ∙ front_digits whole [] all refl in
    let back : after_whole text ≡ [] = ap after_digits body ∙ back_digits whole [] all refl in
    let point : has_point text ≡ false = ap (λ (x : List ℕ). starts_with 46 x) back in
    let rest : after_behind text ≡ [] = ap rest_behind back in
    let behind : behind_digits text ≡ [] = ap digits_behind back in
    let enough : 0 < length (whole_digits text) = omega (arith, ap length front) in
    record {
      number =
          is_number-parts text
          ∙ ap (λ (x : List ℕ). by_parts (whole_digits text) (has_point text) (behind_digits text) x (is_negative text)) rest
          ∙ by_parts-good (whole_digits text) (has_point text) (behind_digits text) (is_negative text) enough (λ e. absurd (false≢true (sym point ∙ e)));
      no_bits = ap (λ (x : List ℕ). starts_with 113 x) rest;
      whole_is = front;
      behind_is = behind;
    }

-- digits, a point and digits
has_digits-point : (text whole behind : List ℕ) → without 45 text ≡ whole ++ 46 ∷ behind → AreDigits whole
    → AreDigits behind → 0 < length whole → 0 < length behind → HasDigits text whole behind
has_digits-point text whole digits body all all_behind some some_behind =
    let front : whole_digits text ≡ whole = ap leading_digits body ∙ front_digits whole (46 ∷ digits) all refl in
    let back : after_whole text ≡ 46 ∷ digits = ap after_digits body ∙ back_digits whole (46 ∷ digits) all refl in
    let end : digits ≡ digits ++ [] = sym (append-nil digits) in
    let rest : after_behind text ≡ [] =
    ap rest_behind back ∙ ap after_digits end ∙ back_digits digits [] all_behind refl in
    let behind : behind_digits text ≡ digits =
    ap digits_behind back ∙ ap leading_digits end ∙ front_digits digits [] all_behind refl in
    let enough : 0 < length (whole_digits text) = omega (arith, ap length front) in
    let enough_behind : 0 < length (behind_digits text) = omega (arith, ap length behind) in
    record {
      number =
          is_number-parts text
          ∙ ap (λ (x : List ℕ). by_parts (whole_digits text) (has_point text) (behind_digits text) x (is_negative text)) rest
          ∙ by_parts-good (whole_digits text) (has_point text) (behind_digits text) (is_negative text) enough (λ e. enough_behind);
      no_bits = ap (λ (x : List ℕ). starts_with 113 x) rest;
      whole_is = front;
      behind_is = behind;
    }

-- ---- the text of a number

-- digits don't begin with a minus sign
no_minus : (digits rest : List ℕ) → AreDigits digits → 0 < length digits → starts_with 45 (digits ++ rest) ≡ false
no_minus [] rest all some = absurd (omega arith)
no_minus (d ∷ digits) rest all some = minus_is_none d (first_digit d digits all)
  where
    minus_is_none : (d : ℕ) → is_ascii_digit d ≡ true → nat_eq d 45 ≡ false
    minus_is_none d e = grind (arith, nat_tests)

-- a whole number has no digits after the point
no_places : (n frac : ℕ) → n % 2 ^ frac ≡ 0 → places_of n frac ≡ 0
no_places n frac none =
    let same : n * 1 ≡ n = omega arith in
    first_from-here (ends_within n frac) 0 frac
    (test_true ((n * 1) % 2 ^ frac) (ap (λ (x : ℕ). x % 2 ^ frac) same ∙ none))

-- and another has some
pub some_places : (n frac : ℕ) → n % 2 ^ frac ≢ 0 → 0 < places_of n frac
some_places n frac other = positive (places_of n frac) (places_enough n frac)
  where
    positive : (p : ℕ) → (n * 10 ^ p) % 2 ^ frac ≡ 0 → 0 < p
    positive zero e = let same : n ≡ n * 1 = omega arith in absurd (other (ap (λ (x : ℕ). x % 2 ^ frac) same ∙ e))
    positive (suc p) e = omega arith

-- the parts of the text of a number
has_digits-text : (text whole : List ℕ) (n frac : ℕ) → without 45 text ≡ whole ++ behind_point n frac
    → AreDigits whole → 0 < length whole → HasDigits text whole (fraction_digits n frac)
has_digits-text text whole n frac body all some = by_rest (nat_eq (n % 2 ^ frac) 0) refl
  where
    zero_by_test : (x : ℕ) → nat_eq x 0 ≡ true → x ≡ 0
    zero_by_test x e = grind (arith, nat_tests)

    more_by_test : (x : ℕ) → nat_eq x 0 ≡ false → x ≢ 0
    more_by_test x e = grind (arith, nat_tests)

    by_rest : (b : Bool) → nat_eq (n % 2 ^ frac) 0 ≡ b → HasDigits text whole (fraction_digits n frac)
    by_rest true e =
        let places : places_of n frac ≡ 0 = no_places n frac (zero_by_test (n % 2 ^ frac) e) in
        let none : [] ≡ fraction_digits n frac =
        sym (ap (λ (x : ℕ). last_digits x (n * 10 ^ places_of n frac / 2 ^ frac)) places ∙ last_digits-none (n * 10 ^ places_of n frac / 2 ^ frac)) in
        subst (λ (ds : List ℕ). HasDigits text whole ds) none
        (has_digits-whole text whole (body ∙ ap (λ (b : Bool). whole ++ (if b then [] else 46 ∷ fraction_digits n frac)) e) all some)
    by_rest false e =
        let more : 0 < length (fraction_digits n frac) = omega (
          arith,
          length-last_digits (places_of n frac) (n * 10 ^ places_of n frac / 2 ^ frac),
          some_places n frac (more_by_test (n % 2 ^ frac) e),
        ) in
        has_digits-point text whole (fraction_digits n frac)
        (body ∙ ap (λ (b : Bool). whole ++ (if b then [] else 46 ∷ fraction_digits n frac)) e)
        all (last-AreDigits (places_of n frac) (n * 10 ^ places_of n frac / 2 ^ frac)) some more

-- a text with these parts and this sign tells the number
tells_by_parts : (m : ℤ) (frac : ℕ) (text whole : List ℕ) → HasDigits text whole (fraction_digits (unsigned_abs m) frac)
    → IsNumeral (unsigned_abs m / 2 ^ frac) whole → is_negative text ≡ int_lt m (pos 0) → TellsExactly m frac text
tells_by_parts m frac text whole parts numeral sign_is = record {
  number = parts.number;
  no_bits = parts.no_bits;
  sign = sign_is;
  value =
      ap (λ (ds : List ℕ). value_after 0 (ds ++ behind_digits text) * 2 ^ frac) parts.whole_is
      ∙ ap (λ (ds : List ℕ). value_after 0 (whole ++ ds) * 2 ^ frac) parts.behind_is
      ∙ digits_tell (unsigned_abs m) frac whole numeral.value
      ∙ ap (λ (ds : List ℕ). unsigned_abs m * 10 ^ length ds) (sym parts.behind_is);
}

-- the parts of the text, by its sign
text_parts : (m : ℤ) (frac : ℕ) → unsigned_abs m < 2 ^ 128
    → HasDigits (decimal_text m frac) (decimal (unsigned_abs m / 2 ^ frac)) (fraction_digits (unsigned_abs m) frac)
    × (is_negative (decimal_text m frac) ≡ int_lt m (pos 0)) × IsNumeral (unsigned_abs m / 2 ^ frac)
    (decimal (unsigned_abs m / 2 ^ frac))
unfolding decimal_text
text_parts (pos n) frac fits =
    let numeral = numeral_decimal (n / 2 ^ frac) (omega (arith, div-le_self n (2 ^ frac))) in
    let whole = decimal (n / 2 ^ frac) in
    let plain = no_minus whole (behind_point n frac) numeral.all numeral.some in
    let body : without 45 (whole ++ behind_point n frac) ≡ whole ++ behind_point n frac =
    ap (λ (b : Bool). if b then drop 1 (whole ++ behind_point n frac) else whole ++ behind_point n frac) plain in
    (has_digits-text (whole ++ behind_point n frac) whole n frac body numeral.all numeral.some, plain ∙ not_below n, numeral)
  where
    not_below : (n : ℕ) → false ≡ nat_lt n 0
    not_below n = grind (arith, nat_tests)
text_parts (negsuc n) frac fits =
    let numeral = numeral_decimal (suc n / 2 ^ frac) (omega (arith, div-le_self (suc n) (2 ^ frac))) in
    let whole = decimal (suc n / 2 ^ frac) in
    (has_digits-text (45 ∷ (whole ++ behind_point (suc n) frac)) whole (suc n) frac refl numeral.all numeral.some, refl, numeral)

-- the decimal text tells the number exactly
pub decimal_text-exact : (m : ℤ) (frac : ℕ) → unsigned_abs m < 2 ^ 128 → TellsExactly m frac (decimal_text m frac)
decimal_text-exact m frac fits =
    let parts = text_parts m frac fits in
    tells_by_parts m frac (decimal_text m frac) (decimal (unsigned_abs m / 2 ^ frac)) parts.0 parts.2 parts.1

-- no text that tells it has fewer digits after the point
pub places_fewest : (m : ℤ) (frac : ℕ) (other : List ℕ) → TellsExactly m frac other
    → places_of (unsigned_abs m) frac ≤ length (behind_digits other)
places_fewest m frac other tells =
    let n = unsigned_abs m in
    let over : (n * 10 ^ length (behind_digits other)) % 2 ^ frac ≡ 0 =
    ap (λ (x : ℕ). x % 2 ^ frac) (sym tells.value)
    ∙ nothing_over (value_of (whole_digits other ++ behind_digits other)) frac in
    omega (
      arith,
      first_from-least (ends_within n frac) 0 frac (length (behind_digits other)) (omega arith)
          (test_true ((n * 10 ^ length (behind_digits other)) % 2 ^ frac) over),
    )
