-- Numbers as `clap` tests them and as `u32` reads them.
use Rattle.std.proofs.Common.{◌≡◌, ◌∙◌, ℕ, Bool, true, false, ◌&&◌, ◌^◌, ◌<◌, ◌≤◌, cond, refl, sym, ap, subst, arith}
use Rattle.std.proofs.Common.{List, [], ◌∷◌, Option, Some, None, Result, length, eqb-true}
use Rattle.std.specs.Prelude.{nat_lt, nat_le}
use Rattle.std.specs.List.{list_all}
use Rattle.std.specs.Char.{digit_value}
use Rattle.std.specs.Str.Parse.{AllDigits, IsNumeral, ParsesUnsigned, without_leading_plus}
use Rattle.std.proofs.lemmas.Bool.{leb-true, le-leb, lt-ltb, ltb-true}
use Rattle.clap.specs.ValueTests.{accepts}
use Rattle.clap.specs.Words.{ReadsOne}
use Rattle.clap.specs.declared.builder.value_parser.ValueParser.TheVariants as parsers
use Rattle.command_words.specs.declared.words.TheConstants.{NUMBER_LIMIT}
use Rattle.command_words.specs.Numbers.{Text, is_number, is_number_in, number_of}
use Rattle.command_words.specs.Options.{Bound, Depth, Steps, limit_of, begins_with_hyphen}

-- ---- tests

-- where both hold, each holds
both : (a b : Bool) → (a && b) ≡ true → (a ≡ true) × (b ≡ true)
both true b e = (refl, e)
both false b e = absurd (cc)

-- nothing holds together with what fails
pub and_false : (b : Bool) → (b && false) ≡ false
and_false true = refl
and_false false = refl

-- ---- what `clap` accepts

-- a number up to a limit that 64 bits hold
pub accepts_number : (least most : ℕ) (text : Text) → most < 2 ^ 64
    → accepts false (parsers.Unsigned least most) text ≡ is_number_in least most text
accepts_number least most text small = ap (λ b. is_number text && b) (go (nat_le (number_of text) most) refl)
  where
    go : (b : Bool) → nat_le (number_of text) most ≡ b
        → (nat_lt (number_of text) (2 ^ 64) && (nat_le least (number_of text) && nat_le (number_of text) most))
        ≡ (nat_le least (number_of text) && nat_le (number_of text) most)
    go true e =
        let fits : number_of text < 2 ^ 64 = omega (arith, leb-true (number_of text) most e) in
        ap (λ b. b && (nat_le least (number_of text) && nat_le (number_of text) most))
        (lt-ltb (number_of text) (2 ^ 64) fits)
    go false e =
        let none : (nat_le least (number_of text) && nat_le (number_of text) most) ≡ false =
        ap (λ b. nat_le least (number_of text) && b) e ∙ and_false (nat_le least (number_of text)) in
        ap (λ b. nat_lt (number_of text) (2 ^ 64) && b) none ∙ and_false (nat_lt (number_of text) (2 ^ 64)) ∙ sym none

-- the value of an option
pub accepts_bound : (bound : Bound) (text : Text)
    → accepts false (parsers.Unsigned 1 (limit_of bound)) text ≡ is_number_in 1 (limit_of bound) text
accepts_bound Depth text = let small : 32 < 2 ^ 64 = omega arith in accepts_number 1 32 text small
accepts_bound Steps text = let small : 50000 < 2 ^ 64 = omega arith in accepts_number 1 50000 text small

-- ---- ranges

-- the number of a text in a range is in the range
pub in_range : (least most : ℕ) (text : Text) → is_number_in least most text ≡ true
    → (nat_le least (number_of text) ≡ true) × (nat_le (number_of text) most ≡ true)
in_range least most text e = both (nat_le least (number_of text)) _ (both (is_number text) _ e).1

-- 32 bits hold the number of a smaller range
pub small_number : (most : ℕ) (text : Text) → most ≤ NUMBER_LIMIT → is_number_in 1 most text ≡ true
    → is_number_in 0 NUMBER_LIMIT text ≡ true
small_number most text small e =
    let parts = both (is_number text) _ e in
    let ends = in_range 1 most text e in
    let below : number_of text ≤ NUMBER_LIMIT = omega (arith, leb-true (number_of text) most ends.1) in
    let above : 0 ≤ number_of text = omega arith in
    rw (parts.0, le-leb 0 (number_of text) above, le-leb (number_of text) NUMBER_LIMIT below) refl

-- no number begins with a hyphen
pub hyphen_no_number : (least most : ℕ) (word : Text) → begins_with_hyphen word ≡ true
    → is_number_in least most word ≡ false
hyphen_no_number least most [] e = absurd (cc)
hyphen_no_number least most (b ∷ word) e =
    subst (λ (n : ℕ). is_number_in least most (n ∷ word) ≡ false) (sym (eqb-true b 45 e))
    (ap (λ t. t && (nat_le least (number_of (45 ∷ word)) && nat_le (number_of (45 ∷ word)) most))
    (and_false (nat_lt 0 (length (45 ∷ word)))))

-- ---- what `u32` reads

-- digits pass the test for digits
digits_pass : (ds : List ℕ) → AllDigits 10 ds → list_all (λ d. nat_lt (digit_value d) 10) ds ≡ true
digits_pass [] h = refl
digits_pass (d ∷ ds) h = rw (lt-ltb (digit_value d) 10 h.0) (digits_pass ds h.1)

-- what passes the test for digits is made of digits
digits_from : (ds : List ℕ) → list_all (λ d. nat_lt (digit_value d) 10) ds ≡ true → AllDigits 10 ds
digits_from [] e = tt
digits_from (d ∷ ds) e =
    let parts = both _ _ e in
    (ltb-true _ _ parts.0, digits_from ds parts.1)

-- a numeral below 2 ^ 32 is a number of 32 bits
passes : (text : Text) → IsNumeral 10 (without_leading_plus text) → number_of text < 2 ^ 32
    → is_number_in 0 NUMBER_LIMIT text ≡ true
passes text numeral small =
    let above : 0 ≤ number_of text = omega arith in
    let below : number_of text ≤ NUMBER_LIMIT = omega arith in
    rw (
      lt-ltb 0 (length (without_leading_plus text)) numeral.0,
      digits_pass (without_leading_plus text) numeral.1,
      le-leb 0 (number_of text) above,
      le-leb (number_of text) NUMBER_LIMIT below,
    ) refl

-- a number of 32 bits is a numeral below 2 ^ 32
numeral_of : (text : Text) → is_number_in 0 NUMBER_LIMIT text ≡ true
    → IsNumeral 10 (without_leading_plus text) × (number_of text < 2 ^ 32)
numeral_of text e =
    let parts = both (is_number text) _ e in
    let digits = both (nat_lt 0 (length (without_leading_plus text))) _ parts.0 in
    let ends = in_range 0 NUMBER_LIMIT text e in
    let small : number_of text < 2 ^ 32 = omega (arith, leb-true (number_of text) NUMBER_LIMIT ends.1) in
    ((ltb-true _ _ digits.0, digits_from (without_leading_plus text) digits.1), small)

module _ {E : Type 0} (A B : Text → Result ℕ E → Type 0) where
  -- what is read is the number of 32 bits that the text denotes, if there is one
  pub reads : (text : Text) (r : Option ℕ)
      → ReadsOne (λ bs (x : Result ℕ E). ParsesUnsigned 32 10 bs x × A bs x × B bs x) text r
      → r ≡ cond (is_number_in 0 NUMBER_LIMIT text) (Some (number_of text)) None
  reads text (Some n) h = rw (passes text h.0.0.0 h.0.0.1) (ap Some h.0.1)
  reads text None h = go (is_number_in 0 NUMBER_LIMIT text) refl
    where
      go : (b : Bool) → is_number_in 0 NUMBER_LIMIT text ≡ b → None ≡ cond b (Some (number_of text)) None
      go true e = absurd (h.1.0 (numeral_of text e))
      go false e = refl
