-- A text that is one number: digits, maybe a point and digits, and maybe `q` and one or two digits.
use Rattle.std.proofs.Common.{◌≡◌, ℕ, ◌+◌, ◌-◌, ◌*◌, ◌<◌, ◌≤◌, Bool, true, false, cond, nat_lt, nat_eq, nat_le, not}
use Rattle.std.proofs.Common.{◌&&◌, List, [], ◌∷◌, ◌++◌, Option, Some, None, Result, Err, if◌then◌else◌, length, take}
use Rattle.std.proofs.Common.{drop, refl, sym, ap, ◌∙◌, append_assoc, length-append, arith}
use Rattle.std.proofs.lemmas.Bool.{lt-ltb, leb-true, le-leb}
use Rattle.std.proofs.lemmas.Bool.Decides.{nat_tests}
use Rattle.std.proofs.lemmas.List.{drop_at, append-nil}
use Rattle.std.proofs.Math.Seq.{take-length}
use Rattle.std.specs.Char.{is_ascii_digit}
use Rattle.fixed_point.specs.Reading.{starts_with, without, leading_digits, after_digits, digits_behind, rest_behind}
use Rattle.fixed_point.specs.Reading.{is_negative, whole_digits, after_whole, has_point, behind_digits, after_behind}
use Rattle.fixed_point.specs.Reading.{bits_of, is_bits, value_of, value_after, number_told, number_read}
use Rattle.chart_lexer.specs.Bytes.{is_digit, begins}
use Rattle.chart_lexer.specs.Numbers.{fraction_length, is_scale, scale_length, decimal_length, number_length}
use Rattle.canonical_text.specs.Words.{IsNumber}
use Rattle.canonical_text.proofs.DigitEnds.{DigitsEnd, no_digits, digits_end}
use Rattle.fixed_point.proofs.Numerals.{AreDigits, front_digits, back_digits, first_digit}
use Rattle.fixed_point.proofs.Values.{digit_within}
use Rattle.fixed_point.specs.declared.num.Num.{Num}
use Rattle.fixed_point.specs.declared.reading.NumFault.{NumFault}
use Rattle.fixed_point.specs.declared.reading.NumFault.TheVariants.{NotNumber}

-- a point and the digits after it, where there are any
abbrev pub point : List ℕ → List ℕ
point [] = []
point (d ∷ ds) = 46 ∷ d ∷ ds

-- `q` and the digits after it, where there are any
abbrev pub mark : List ℕ → List ℕ
mark [] = []
mark (d ∷ ds) = 113 ∷ d ∷ ds

-- what these digits ask for
abbrev pub bits_told : List ℕ → Option ℕ
bits_told [] = None
bits_told (d ∷ ds) = Some (value_of (d ∷ ds))

-- if there are any, they are one or two of a value up to 32
abbrev pub ScaleIfAny : List ℕ → Type 0
ScaleIfAny [] = Unit {0}
ScaleIfAny (d ∷ ds) = is_scale (d ∷ ds) ≡ true

-- the text of these digits
abbrev pub form : List ℕ → List ℕ → List ℕ → List ℕ
form w f b = w ++ (point f ++ mark b)

-- digits before the point and after it, and of bits
pub record IsForm (w f b : List ℕ) : Type 0 where
  pub whole : AreDigits w
  pub some : 0 < length w
  pub behind : AreDigits f
  pub bits : AreDigits b
  pub scale : ScaleIfAny b

-- ---- where its parts end

mark_ends : (b : List ℕ) → DigitsEnd (mark b)
mark_ends [] = refl
mark_ends (d ∷ ds) = refl

point_ends : (f b : List ℕ) → DigitsEnd (point f ++ mark b)
point_ends [] b = mark_ends b
point_ends (d ∷ ds) b = refl

-- ---- its length

-- no point is in front of `q`
marked_fraction : (b : List ℕ) → fraction_length (mark b) ≡ 0
unfolding fraction_length
marked_fraction [] = refl
marked_fraction (d ∷ ds) = refl

-- the point and its digits
point_fraction : (f b : List ℕ) → AreDigits f → fraction_length (point f ++ mark b) ≡ length (point f)
unfolding fraction_length
point_fraction [] b all = marked_fraction b
point_fraction (d ∷ ds) b all =
    let n : ℕ = length (d ∷ ds) in
    let run = digits_end (d ∷ ds) (mark b) all (mark_ends b) in
    ap (λ (n : ℕ). cond (nat_lt 0 n) (n + 1) 0) run
    ∙ ap (λ (t : Bool). cond t (n + 1) 0) (lt-ltb 0 n (omega arith)) ∙ omega arith

-- `q` and its digits
mark_scale : (b : List ℕ) → AreDigits b → ScaleIfAny b → scale_length (mark b) ≡ length (mark b)
unfolding scale_length
mark_scale [] all good = refl
mark_scale (d ∷ ds) all good =
    let n : ℕ = length (d ∷ ds) in
    ap (λ (n : ℕ). cond (is_scale (take n (d ∷ ds))) (n + 1) 0) all
    ∙ ap (λ (x : List ℕ). cond (is_scale x) (n + 1) 0) (take-length (d ∷ ds))
    ∙ ap (λ (t : Bool). cond t (n + 1) 0) good ∙ omega arith

-- after the digits stand the point and what follows
decimal_is : (w f b : List ℕ) → IsForm w f b → decimal_length (form w f b) ≡ length (w ++ point f)
unfolding decimal_length
decimal_is w f b is =
    let n : ℕ = length w in
    let run = digits_end w (point f ++ mark b) is.whole (point_ends f b) in
    ap (λ (x : ℕ). x + fraction_length (drop x (form w f b))) run
    ∙ ap (λ (r : List ℕ). n + fraction_length r) (drop_at w (point f ++ mark b) n refl)
    ∙ ap (λ (x : ℕ). n + x) (point_fraction f b is.behind) ∙ sym (length-append w (point f))

-- the text is as long as the number in front of it
length_is : (w f b : List ℕ) → IsForm w f b → number_length (form w f b) ≡ length (form w f b)
unfolding number_length
length_is w f b is =
    let front : List ℕ = w ++ point f in
    let n : ℕ = length front in
    let parts : form w f b ≡ front ++ mark b = sym (append_assoc w (point f) (mark b)) in
    ap (λ (x : ℕ). x + scale_length (drop x (form w f b))) (decimal_is w f b is)
    ∙ ap (λ (s : List ℕ). n + scale_length (drop n s)) parts
    ∙ ap (λ (r : List ℕ). n + scale_length r) (drop_at front (mark b) n refl)
    ∙ ap (λ (x : ℕ). n + x) (mark_scale b is.bits is.scale)
    ∙ sym (length-append front (mark b)) ∙ ap length (sym parts)

begins_digit : (w rest : List ℕ) → AreDigits w → 0 < length w → begins is_digit (w ++ rest) ≡ true
begins_digit [] rest all some = absurd (omega arith)
begins_digit (d ∷ w) rest all some = first_digit d w all

-- the text is one number
form_is_number : (w f b : List ℕ) → IsForm w f b → IsNumber (form w f b)
form_is_number w f b is = (begins_digit w (point f ++ mark b) is.whole is.some, length_is w f b is)

-- ---- how it is read

-- digits don't begin with a minus sign
no_minus : (w rest : List ℕ) → AreDigits w → 0 < length w → starts_with 45 (w ++ rest) ≡ false
no_minus [] rest all some = absurd (omega arith)
no_minus (d ∷ w) rest all some = minus_is_none d (first_digit d w all)
  where
    minus_is_none : (d : ℕ) → is_ascii_digit d ≡ true → nat_eq d 45 ≡ false
    minus_is_none d e = grind (arith, nat_tests)

-- what is read of it
pub record Reads (text w f b : List ℕ) : Type 0 where
  pub number : IsNumber text
  pub whole : whole_digits text ≡ w
  pub behind : behind_digits text ≡ f
  pub bits : bits_of text ≡ bits_told b
  pub read : number_read text ≡ number_told false w f (bits_told b)

-- the digits after the point
behind_is : (f b : List ℕ) → AreDigits f → digits_behind (point f ++ mark b) ≡ f
behind_is [] [] all = refl
behind_is [] (d ∷ ds) all = refl
behind_is (c ∷ cs) b all = front_digits (c ∷ cs) (mark b) all (no_digits (mark b) (mark_ends b))

-- and what is after those
rest_is : (f b : List ℕ) → AreDigits f → rest_behind (point f ++ mark b) ≡ mark b
rest_is [] [] all = refl
rest_is [] (d ∷ ds) all = refl
rest_is (c ∷ cs) b all = back_digits (c ∷ cs) (mark b) all (no_digits (mark b) (mark_ends b))

-- ---- one or two digits of a value up to 32

one_or_two : (n m v : ℕ) → n ≡ m → 1 ≤ m → m ≤ 2 → v ≤ 32
    → (nat_eq n m && nat_le 1 m && nat_le m 2 && nat_le v 32) ≡ true
one_or_two n m v e some few small = grind (arith, nat_tests)

all_lead : (ds : List ℕ) → AreDigits ds → length (leading_digits ds) ≡ length ds
all_lead ds all =
    ap (λ (x : List ℕ). length (leading_digits x)) (sym (append-nil ds)) ∙ ap length (front_digits ds [] all refl)

-- what is a scale to the cutter is one to the reader
scale_is_bits : (ds : List ℕ) → AreDigits ds → is_scale ds ≡ true → is_bits ds ≡ true
unfolding value_after
scale_is_bits [] all good = absurd cc
scale_is_bits (a ∷ []) all good =
    let nine = digit_within a (first_digit a [] all) in
    one_or_two (length (leading_digits (a ∷ []))) 1 (0 * 10 + (a - 48)) (all_lead (a ∷ []) all) (omega arith)
    (omega arith) (omega arith)
scale_is_bits (a ∷ b ∷ []) all good =
    let small = leb-true ((a - 48) * 10 + (b - 48)) 32 good in
    one_or_two (length (leading_digits (a ∷ b ∷ []))) 2 ((0 * 10 + (a - 48)) * 10 + (b - 48))
    (all_lead (a ∷ b ∷ []) all)
    (omega arith) (omega arith) (omega arith)
scale_is_bits (a ∷ b ∷ c ∷ s) all good = absurd cc

-- the value of a scale
pub scale_small : (ds : List ℕ) → AreDigits ds → is_scale ds ≡ true → value_of ds ≤ 32
unfolding value_after
scale_small [] all good = absurd cc
scale_small (a ∷ []) all good = let nine = digit_within a (first_digit a [] all) in omega arith
scale_small (a ∷ b ∷ []) all good = let small = leb-true ((a - 48) * 10 + (b - 48)) 32 good in omega arith
scale_small (a ∷ b ∷ c ∷ s) all good = absurd cc

-- one or two digits of such a value are a scale
pub small_scale : (ds : List ℕ) → 0 < length ds → length ds ≤ 2 → value_of ds ≤ 32 → is_scale ds ≡ true
unfolding value_after
small_scale [] some few small = absurd (omega arith)
small_scale (a ∷ []) some few small = refl
small_scale (a ∷ b ∷ []) some few small = le-leb _ 32 (omega (arith, small))
small_scale (a ∷ b ∷ c ∷ s) some few small = absurd (omega arith)

-- ---- the number that it tells

-- by its sign, its digits before the point, whether a point stands there, the digits after it, and
-- what stands after those
number_by : Bool → List ℕ → Bool → List ℕ → List ℕ → Result Num NumFault
number_by negative whole has behind rest =
    if nat_lt 0 (length whole)
    && (if has then nat_lt 0 (length behind) else true)
    && (if starts_with 113 rest then not negative && is_bits (drop 1 rest) else nat_eq (length rest) 0)
    then number_told negative whole behind (if starts_with 113 rest then Some (value_of (drop 1 rest)) else None)
    else Err NotNumber

read_by : (text : List ℕ) → number_read text
    ≡ number_by (is_negative text) (whole_digits text) (has_point text) (behind_digits text) (after_behind text)
unfolding number_read number_by
read_by text = refl

-- whether there are any
abbrev any : List ℕ → Bool
any [] = false
any (d ∷ ds) = true

point_there : (f b : List ℕ) → starts_with 46 (point f ++ mark b) ≡ any f
point_there [] [] = refl
point_there [] (d ∷ ds) = refl
point_there (c ∷ cs) b = refl

some_if_any : (f : List ℕ) → (if any f then nat_lt 0 (length f) else true) ≡ true
some_if_any [] = refl
some_if_any (d ∷ ds) = lt-ltb 0 (length (d ∷ ds)) (omega arith)

bits_if_any : (b : List ℕ) → AreDigits b → ScaleIfAny b
    → (if starts_with 113 (mark b) then is_bits (drop 1 (mark b)) else nat_eq (length (mark b)) 0) ≡ true
bits_if_any [] all good = refl
bits_if_any (d ∷ ds) all good = scale_is_bits (d ∷ ds) all good

bits_are : (b : List ℕ) → (if starts_with 113 (mark b) then Some (value_of (drop 1 (mark b))) else None) ≡ bits_told b
bits_are [] = refl
bits_are (d ∷ ds) = refl

-- the parts have no fault but those of the number that they tell
number_by-form : (w f b : List ℕ) → IsForm w f b
    → number_by false w (any f) f (mark b) ≡ number_told false w f (bits_told b)
unfolding number_by
number_by-form w f b is =
    rw (lt-ltb 0 (length w) is.some, some_if_any f, bits_if_any b is.bits is.scale, bits_are b) refl

-- the whole text is read as its parts
pub form_reads : (w f b : List ℕ) → IsForm w f b → Reads (form w f b) w f b
form_reads w f b is =
    let text : List ℕ = form w f b in
    let rest : List ℕ = point f ++ mark b in
    let plain : is_negative text ≡ false = no_minus w rest is.whole is.some in
    let body : without 45 text ≡ text = ap (λ (t : Bool). if t then drop 1 text else text) plain in
    let none = no_digits rest (point_ends f b) in
    let whole : whole_digits text ≡ w = ap leading_digits body ∙ front_digits w rest is.whole none in
    let after : after_whole text ≡ rest = ap after_digits body ∙ back_digits w rest is.whole none in
    let has : has_point text ≡ any f = ap (starts_with 46) after ∙ point_there f b in
    let behind : behind_digits text ≡ f = ap digits_behind after ∙ behind_is f b is.behind in
    let last : after_behind text ≡ mark b = ap rest_behind after ∙ rest_is f b is.behind in
    record {
      number = form_is_number w f b is;
      whole = whole;
      behind = behind;
      bits = ap (λ (r : List ℕ). if starts_with 113 r then Some (value_of (drop 1 r)) else None) last ∙ bits_are b;
      read = read_by text
          ∙ ap (λ (x : Bool). number_by x (whole_digits text) (has_point text) (behind_digits text)
          (after_behind text)) plain
          ∙ ap (λ (x : List ℕ). number_by false x (has_point text) (behind_digits text) (after_behind text)) whole
          ∙ ap (λ (x : Bool). number_by false w x (behind_digits text) (after_behind text)) has
          ∙ ap (λ (x : List ℕ). number_by false w (any f) x (after_behind text)) behind
          ∙ ap (λ (x : List ℕ). number_by false w (any f) f x) last
          ∙ number_by-form w f b is;
    }
