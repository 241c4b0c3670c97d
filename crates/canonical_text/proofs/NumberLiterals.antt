-- The canonical bytes of a number without a fault are that number, and have none.
use Rattle.std.proofs.Common.{◌≡◌, ◌≢◌, ℕ, zero, suc, ◌/◌, ◌^◌, ◌<◌, ◌≤◌, Bool, false, nat_lt, List, [], ◌∷◌, ◌++◌}
use Rattle.std.proofs.Common.{Option, Some, None, Result, Err, if◌then◌else◌, length, decimal, refl, sym, ap, ◌∙◌}
use Rattle.std.proofs.Common.{inl, inr, append_assoc, length-append, arith}
use Rattle.std.proofs.Math.Nat.{div-le_self, div-one}
use Rattle.std.proofs.lemmas.Nat.{div-add-mod'}
use Rattle.std.proofs.lemmas.Bool.{cases_Bool, ltb-false, le-ltb}
use Rattle.std.proofs.lemmas.List.{append-nil}
use Rattle.std.proofs.lemmas.Fmt.{length-decimal-le_wide}
use Rattle.fixed_point.specs.declared.reading.TheConstants.{DIGIT_LIMIT}
use Rattle.fixed_point.specs.declared.num.Num.{Num}
use Rattle.fixed_point.specs.declared.reading.NumFault.{NumFault}
use Rattle.fixed_point.specs.declared.reading.NumFault.TheVariants.{TooLong}
use Rattle.fixed_point.specs.Text.{last_digits}
use Rattle.fixed_point.specs.Reading.{behind_digits, value_after, value_of, frac_of, number_of, number_told}
use Rattle.fixed_point.proofs.Digits.{length-last_digits, test_false}
use Rattle.fixed_point.proofs.Powers.{ten_power-le}
use Rattle.fixed_point.proofs.Numerals.{AreDigits, append-AreDigits, numeral_decimal, last-AreDigits, value_last}
use Rattle.fixed_point.proofs.Numerals.{value_bounds, whole_by_bounds}
use Rattle.fixed_point.proofs.Values.{value_after-append}
use Rattle.chart_tree.specs.declared.name.LitText.{LitText}
use Rattle.chart_grammar.specs.Words.{lit_of, fault_of_number}
use Rattle.chart_print.specs.Words.{digits_bytes, bits_bytes}
use Rattle.canonical_text.specs.Terms.{IsLiteral}
use Rattle.canonical_text.specs.Claims.{literal_bytes, LiteralIsRead}
use Rattle.canonical_text.proofs.Literals.{same_literal}
use Rattle.canonical_text.proofs.Forms.{point, mark, bits_told, ScaleIfAny, form, IsForm, Reads, form_reads}
use Rattle.canonical_text.proofs.Forms.{scale_small, small_scale}
use Rattle.canonical_text.proofs.NumberParts.{number_parts, point_of}

-- ---- what a number without a fault has

-- digits that tell the number, at most DIGIT_LIMIT of them before and after the point, and no fault of it
record Tells (lit : LitText) (w f b : List ℕ) : Type 0 where
  is : IsForm w f b
  units : lit.units ≡ value_of (w ++ f)
  places : lit.places ≡ length f
  q : lit.q ≡ bits_told b
  few : length (w ++ f) ≤ DIGIT_LIMIT
  sound : fault_of_number (number_of false lit.units lit.places (frac_of lit.q lit.units lit.places)) ≡ None

-- more than DIGIT_LIMIT digits are a fault
few_if_sound : (n : ℕ) (other : Result Num NumFault)
    → fault_of_number (if nat_lt DIGIT_LIMIT n then Err TooLong else other) ≡ None → n ≤ DIGIT_LIMIT
few_if_sound n other sound =
    elim (cases_Bool (nat_lt DIGIT_LIMIT n)) [
      | inl many ↦ absurd (let no = rw many at sound in cc)
      | inr few ↦ ltb-false DIGIT_LIMIT n few
    ]

-- at most DIGIT_LIMIT digits are no fault
few_digits : (n : ℕ) (other : Result Num NumFault) → n ≤ DIGIT_LIMIT → (if nat_lt DIGIT_LIMIT n then Err TooLong else other) ≡ other
few_digits n other few = ap (λ (t : Bool). if t then Err TooLong else other) (le-ltb DIGIT_LIMIT n few)

-- it tells what its parts do
tells : (lit : LitText) (h : IsLiteral lit) (w f b : List ℕ) → IsForm w f b → h.text ≡ form w f b → Tells lit w f b
tells lit h w f b is parts =
    let reads : Reads h.text w f b = rw parts (form_reads w f b is) in
    let u : ℕ = value_of (w ++ f) in
    let told : Result Num NumFault = number_of false u (length f) (frac_of (bits_told b) u (length f)) in
    let sound : fault_of_number (number_told false w f (bits_told b)) ≡ None =
    ap fault_of_number (sym reads.read) ∙ h.sound in
    let few : length (w ++ f) ≤ DIGIT_LIMIT = few_if_sound (length (w ++ f)) told sound in
    let units : lit.units ≡ u =
    ap (λ (x : LitText). x.units) h.told
    ∙ ap (λ (x : List ℕ). value_of (x ++ behind_digits h.text)) reads.whole
    ∙ ap (λ (x : List ℕ). value_of (w ++ x)) reads.behind in
    let places : lit.places ≡ length f = ap (λ (x : LitText). x.places) h.told ∙ ap length reads.behind in
    let q : lit.q ≡ bits_told b = ap (λ (x : LitText). x.q) h.told ∙ reads.bits in
    record {
      is = is;
      units = units;
      places = places;
      q = q;
      few = few;
      sound = rw (units, places, q) (ap fault_of_number (sym (few_digits (length (w ++ f)) told few)) ∙ sound);
    }

-- ---- the canonical digits

-- the digits before the point
abbrev whole_of : LitText → List ℕ
whole_of lit = decimal (lit.units / 10 ^ lit.places)

-- after the point
abbrev behind_of : LitText → List ℕ
behind_of lit = last_digits lit.places lit.units

-- of bits
abbrev bits_in : Option ℕ → List ℕ
bits_in None = []
bits_in (Some n) = decimal n

-- where there are bits, `q` stands before them
mark_some : (ds : List ℕ) → 0 < length ds → mark ds ≡ 113 ∷ ds
mark_some [] some = absurd (omega arith)
mark_some (d ∷ ds) some = refl

-- the bits that digits ask for are at most 32
bits_small : (b : List ℕ) (n : ℕ) → AreDigits b → ScaleIfAny b → Some n ≡ bits_told b → n ≤ 32
bits_small [] n all good e = absurd cc
bits_small (d ∷ ds) n all good e = let same : n ≡ value_of (d ∷ ds) = cc in omega (arith, scale_small (d ∷ ds) all good)

-- the canonical digits of bits
record Bits (q : Option ℕ) : Type 0 where
  all : AreDigits (bits_in q)
  scale : ScaleIfAny (bits_in q)
  told : bits_told (bits_in q) ≡ q
  bytes : bits_bytes q ≡ mark (bits_in q)

-- at most two digits of such a value are a scale, if there are any
scale_if_small : (ds : List ℕ) → length ds ≤ 2 → value_of ds ≤ 32 → ScaleIfAny ds
scale_if_small [] few small = tt
scale_if_small (d ∷ ds) few small = small_scale (d ∷ ds) (omega arith) few small

-- digits that tell a number ask for as many bits
told_some : (n : ℕ) (ds : List ℕ) → 0 < length ds → value_of ds ≡ n → bits_told ds ≡ Some n
told_some n [] some e = absurd (omega arith)
told_some n (d ∷ ds) some e = ap (λ (x : ℕ). Some x) e

-- they are good where they come from a number
bits_good : (b : List ℕ) (q : Option ℕ) → AreDigits b → ScaleIfAny b → q ≡ bits_told b → Bits q
unfolding bits_bytes
bits_good b None all good e = record { all = refl; scale = tt; told = refl; bytes = refl }
bits_good b (Some n) all good e =
    let small = bits_small b n all good e in
    let numeral = numeral_decimal n (omega arith) in
    let short = length-decimal-le_wide 2 n (omega arith) (omega arith) (omega arith) in
    record {
      all = numeral.all;
      scale = scale_if_small (decimal n) short (omega (arith, numeral.value));
      told = told_some n (decimal n) numeral.some numeral.value;
      bytes = sym (mark_some (decimal n) numeral.some);
    }

-- the canonical bytes before `q`
digits_are : (units places : ℕ)
    → digits_bytes units places ≡ decimal (units / 10 ^ places) ++ point (last_digits places units)
unfolding digits_bytes last_digits
digits_are units zero = ap decimal (sym (div-one units)) ∙ sym (append-nil (decimal (units / 10 ^ 0)))
digits_are units (suc k) =
    let ds : List ℕ = last_digits (suc k) units in
    let whole : List ℕ = decimal (units / 10 ^ suc k) in
    let more : suc k ≢ 0 = λ e. omega (arith, e) in
    let dot : point ds ≡ 46 ∷ ds =
    sym (append-nil (point ds)) ∙ point_of ds [] (omega (arith, length-last_digits (suc k) units))
    ∙ ap (λ (x : List ℕ). 46 ∷ x) (append-nil ds) in
    ap (λ (t : Bool). if t then decimal units else (whole ++ 46 ∷ []) ++ ds) (test_false (suc k) more)
    ∙ append_assoc whole (46 ∷ []) ds
    ∙ ap (λ (x : List ℕ). whole ++ x) (sym dot)

-- the canonical bytes are a text of these digits
bytes_are : (lit : LitText) → Bits lit.q → literal_bytes lit ≡ form (whole_of lit) (behind_of lit) (bits_in lit.q)
bytes_are lit bits =
    rw (digits_are lit.units lit.places, bits.bytes)
    (append_assoc (whole_of lit) (point (behind_of lit)) (mark (bits_in lit.q)))

-- ---- their value and how many they are

-- the digits before the point tell the whole part
whole_part : (w f : List ℕ) → AreDigits f → value_of (w ++ f) / 10 ^ length f ≡ value_of w
whole_part w f all_behind =
    let bounds = value_bounds (value_of w) f all_behind in
    ap (λ (x : ℕ). x / 10 ^ length f) (value_after-append 0 w f)
    ∙ whole_by_bounds (value_of w) (value_after (value_of w) f) (10 ^ length f) bounds.0 bounds.1

-- so there are no more of them than there were
few_enough : (lit : LitText) (w f b : List ℕ) → Tells lit w f b
    → (length (whole_of lit) ≤ length w) × (lit.units < 10 ^ DIGIT_LIMIT)
few_enough lit w f b t =
    let n : ℕ = lit.units / 10 ^ lit.places in
    let whole : n ≡ value_of w = rw (t.units, t.places) (whole_part w f t.is.behind) in
    let bound = value_bounds 0 w t.is.whole in
    let all : AreDigits (w ++ f) = append-AreDigits w f t.is.whole t.is.behind in
    let total = value_bounds 0 (w ++ f) all in
    let top = ten_power-le (length (w ++ f)) DIGIT_LIMIT t.few in
    let below : lit.units < 10 ^ DIGIT_LIMIT = omega (arith, t.units, total.1) in
    let part = div-le_self lit.units (10 ^ lit.places) in
    (length-decimal-le_wide (length w) n t.is.some (omega (arith, bound.1)) (omega arith), below)

-- all of them tell the same number
value_again : (units places : ℕ) (w : List ℕ) → value_of w ≡ units / 10 ^ places
    → value_of (w ++ last_digits places units) ≡ units
value_again units places w whole =
    value_after-append 0 w (last_digits places units)
    ∙ ap (λ (x : ℕ). value_after x (last_digits places units)) whole
    ∙ value_last (units / 10 ^ places) places units ∙ div-add-mod' units (10 ^ places)

-- ---- the claim

-- a number whose parts tell it is read again
by_parts : (lit : LitText) (w f b : List ℕ) → Tells lit w f b → LiteralIsRead lit
by_parts lit w f b t =
    let few = few_enough lit w f b t in
    let part = div-le_self lit.units (10 ^ lit.places) in
    let whole = numeral_decimal (lit.units / 10 ^ lit.places) (omega (arith, few.1)) in
    let bits = bits_good b lit.q t.is.bits t.is.scale t.q in
    let w' : List ℕ = whole_of lit in
    let f' : List ℕ = behind_of lit in
    let b' : List ℕ = bits_in lit.q in
    let is : IsForm w' f' b' = record {
      whole = whole.all;
      some = whole.some;
      behind = last-AreDigits lit.places lit.units;
      bits = bits.all;
      scale = bits.scale;
    } in
    let reads : Reads (literal_bytes lit) w' f' b' = rw (bytes_are lit bits) (form_reads w' f' b' is) in
    let size : length f' ≡ lit.places = length-last_digits lit.places lit.units in
    let value : value_of (w' ++ f') ≡ lit.units = value_again lit.units lit.places w' whole.value in
    let again : ℕ = value_of (w' ++ f') in
    let told : Result Num NumFault = number_of false again (length f') (frac_of (bits_told b') again (length f')) in
    let room : length (w' ++ f') ≤ DIGIT_LIMIT =
    omega (arith, length-append w' f', length-append w f, t.few, t.places, size, few.0) in
    let units : (lit_of (literal_bytes lit)).units ≡ lit.units =
    ap (λ (x : List ℕ). value_of (x ++ behind_digits (literal_bytes lit))) reads.whole
    ∙ ap (λ (x : List ℕ). value_of (w' ++ x)) reads.behind ∙ value in
    let places : (lit_of (literal_bytes lit)).places ≡ lit.places = ap length reads.behind ∙ size in
    let q : (lit_of (literal_bytes lit)).q ≡ lit.q = reads.bits ∙ bits.told in
    record {
      number = reads.number;
      sound = ap fault_of_number (reads.read ∙ few_digits (length (w' ++ f')) told room)
          ∙ rw (value, size, bits.told) t.sound;
      told = same_literal (lit_of (literal_bytes lit)) lit units places q;
    }

-- a number without a fault is read again
pub literal_is_read : (lit : LitText) → IsLiteral lit → LiteralIsRead lit
literal_is_read lit h =
    let parts = number_parts h.text h.number in
    by_parts lit parts.whole parts.behind parts.bits
    (tells lit h parts.whole parts.behind parts.bits parts.is parts.parts)
