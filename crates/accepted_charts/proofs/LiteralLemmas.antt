-- A literal of a sound text denotes a number.
use Rattle.std.proofs.Common.{◌≡◌, ℕ, ◌+◌, ◌≤◌, List, ◌++◌, length, Bool, true, false, Option, Some, None, refl, sym}
use Rattle.std.proofs.Common.{ap, ◌∙◌, subst, arith, length-append}
use Rattle.std.specs.Prelude.{Ok, Err, ◌==◌, nat_lt, nat_le, ◌&&◌, not, if◌then◌else◌}
use Rattle.std.proofs.lemmas.Bool.Decides.{nat_tests}
use Rattle.fixed_point.specs.declared.num.Num.{Num}
use Rattle.fixed_point.specs.declared.reading.NumFault.TheVariants as num_faults
use Rattle.fixed_point.specs.declared.reading.TheConstants.{DIGIT_LIMIT}
use Rattle.fixed_point.specs.declared.scale.TheConstants.{PLACES_LIMIT}
use Rattle.fixed_point.specs.Reading.{number_read, number_told, number_of, is_number, is_bits, is_exact, is_negative}
use Rattle.fixed_point.specs.Reading.{whole_digits, behind_digits, bits_of, bits_digits, has_bits, has_point}
use Rattle.fixed_point.specs.Reading.{leading_digits, after_behind, frac_of, value_of, steps_within, signed_number}
use Rattle.fixed_point.specs.Text.{first_from}
use Rattle.chart_tree.specs.declared.name.LitText.{LitText}
use Rattle.chart_grammar.specs.Words.{lit_of, fault_of_number}
use Rattle.canonical_text.specs.Terms as terms
use Rattle.resolved_tree.specs.Promise as promise

-- the last of tests that all hold
last_of_two : (a b : Bool) → (a && b) ≡ true → b ≡ true
last_of_two true b e = e
last_of_two false true e = refl
last_of_two false false e = e

last_of_three : (a b c : Bool) → (a && b && c) ≡ true → c ≡ true
last_of_three a b true e = refl
last_of_three true true false e = e
last_of_three true false false e = e
last_of_three false b false e = e

last_of_four : (a b c d : Bool) → (a && b && c && d) ≡ true → d ≡ true
last_of_four a b c true e = refl
last_of_four true true true false e = e
last_of_four true true false false e = e
last_of_four true false c false e = e
last_of_four false b c false e = e

-- the bits that `q` asks for are few
few_bits : (digits : List ℕ) → is_bits digits ≡ true → value_of digits ≤ PLACES_LIMIT
few_bits digits e =
    let whole = length (leading_digits digits) == length digits in
    let few = nat_le (value_of digits) PLACES_LIMIT in
    let f : few ≡ true = last_of_four whole (nat_le 1 (length digits)) (nat_le (length digits) 2) few e in
    grind (arith, nat_tests)

bits_within : (text : List ℕ) (bits : ℕ) → is_number text ≡ true → bits_of text ≡ Some bits → bits ≤ PLACES_LIMIT
bits_within text bits h e =
    let sign = not (is_negative text) && is_bits (bits_digits text) in
    let rest = length (after_behind text) == 0 in
    let some = nat_lt 0 (length (whole_digits text)) in
    let behind = if has_point text then nat_lt 0 (length (behind_digits text)) else true in
    at (has_bits text) (is_negative text) rest
    (last_of_three some behind (if has_bits text then sign else rest) h) e
  where
    at : (b n c : Bool) → (if b then not n && is_bits (bits_digits text) else c) ≡ true
        → (if b then Some (value_of (bits_digits text)) else None) ≡ Some bits → bits ≤ PLACES_LIMIT
    at true n c h e =
        let few = few_bits (bits_digits text) (last_of_two (not n) (is_bits (bits_digits text)) h) in
        let same : value_of (bits_digits text) ≡ bits = cc in
        omega arith
    at false n c h e = absurd cc

-- the fewest bits at which a number is exact are few
exact_within : (f frac : ℕ) → (if nat_lt f (PLACES_LIMIT + 1) then Some f else None) ≡ Some frac → frac ≤ PLACES_LIMIT
exact_within f frac e = at (nat_lt f (PLACES_LIMIT + 1)) refl e
  where
    at : (b : Bool) → nat_lt f (PLACES_LIMIT + 1) ≡ b → (if b then Some f else None) ≡ Some frac → frac ≤ PLACES_LIMIT
    at true t e =
        let same : f ≡ frac = cc in
        let low : f ≤ PLACES_LIMIT = grind (arith, nat_tests) in
        omega arith
    at false t e = absurd cc

frac_within : (q : Option ℕ) (units places frac : ℕ) → ((bits : ℕ) → q ≡ Some bits → bits ≤ PLACES_LIMIT)
    → frac_of q units places ≡ Some frac → frac ≤ PLACES_LIMIT
frac_within None units places frac few e = exact_within (first_from (is_exact units places) 0 (PLACES_LIMIT + 1)) frac e
frac_within (Some bits) units places frac few e = let same : bits ≡ frac = cc in omega (arith, few bits refl)

-- what is read with one sign is read without it
signed_read : (negative : Bool) (frac : ℕ) (steps : Option ℕ)
    → fault_of_number (signed_number negative frac steps) ≡ None
    → (n : Num) × (signed_number false frac steps ≡ Ok n) × (n.frac ≡ frac)
signed_read negative frac None h = absurd cc
signed_read negative frac (Some steps) h = (_, refl, refl)

-- a literal whose fraction is given
frac_read : (lit : LitText) (negative : Bool) (frac : Option ℕ) → frac_of lit.q lit.units lit.places ≡ frac
    → lit.places ≤ DIGIT_LIMIT → ((bits : ℕ) → lit.q ≡ Some bits → bits ≤ PLACES_LIMIT)
    → fault_of_number (number_of negative lit.units lit.places frac) ≡ None → promise.IsLiteral lit
frac_read lit negative None is places few h = absurd cc
frac_read lit negative (Some frac) is places few h =
    let read = signed_read negative frac (steps_within lit.units lit.places frac) h in
    let low = frac_within lit.q lit.units lit.places frac few is in
    let same = read.2 in
    record {
      places = places;
      number = read.0;
      denoted = ap (number_of false lit.units lit.places) is ∙ read.1;
      short = omega arith;
    }

-- digits before and after the point, with bits that are few
told_read : (negative : Bool) (whole behind : List ℕ) (q : Option ℕ)
    → ((bits : ℕ) → q ≡ Some bits → bits ≤ PLACES_LIMIT)
    → fault_of_number (number_told negative whole behind q) ≡ None
    → promise.IsLiteral (record { units = value_of (whole ++ behind); places = length behind; q = q })
told_read negative whole behind q few h = at (nat_lt DIGIT_LIMIT (length (whole ++ behind))) refl h
  where
    lit : LitText
    lit = record { units = value_of (whole ++ behind); places = length behind; q = q }

    at : (b : Bool) → nat_lt DIGIT_LIMIT (length (whole ++ behind)) ≡ b
        → fault_of_number (if b then Err num_faults.TooLong
        else number_of negative lit.units lit.places (frac_of q lit.units lit.places)) ≡ None → promise.IsLiteral lit
    at true t h = absurd cc
    at false t h =
        let low : length (whole ++ behind) ≤ DIGIT_LIMIT = grind (arith, nat_tests) in
        let places : length behind ≤ DIGIT_LIMIT = omega (arith, length-append whole behind) in
        frac_read lit negative (frac_of q lit.units lit.places) refl places few h

-- a text whose reading has no fault
text_read : (text : List ℕ) → fault_of_number (number_read text) ≡ None → promise.IsLiteral (lit_of text)
unfolding number_read
text_read text h = at (is_number text) refl h
  where
    at : (b : Bool) → is_number text ≡ b
        → fault_of_number (if b
        then number_told (is_negative text) (whole_digits text) (behind_digits text) (bits_of text)
        else Err num_faults.NotNumber) ≡ None → promise.IsLiteral (lit_of text)
    at true t h =
        told_read (is_negative text) (whole_digits text) (behind_digits text) (bits_of text)
        (λ bits e. bits_within text bits t e) h
    at false t h = absurd cc

-- a literal of a chart text is one of a resolved chart
pub literal_kept : (lit : LitText) → terms.IsLiteral lit → promise.IsLiteral lit
literal_kept lit h = subst promise.IsLiteral (sym h.told) (text_read h.text h.sound)
