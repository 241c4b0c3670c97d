-- Texts that are numbers.
use Rattle.std.proofs.Common.{◌≡◌, ℕ, ◌^◌, ◌<◌, ◌≤◌, ◌+◌, Bool, true, false, ◌&&◌, cond, nat_lt, nat_eq, List, [], ◌∷◌}
use Rattle.std.proofs.Common.{Option, Some, None, refl, sym, ap, ◌∙◌, subst, arith}
use Rattle.std.specs.Prelude.{IfSome}
use Rattle.std.specs.Char.{digit_value}
use Rattle.std.specs.Fmt.{decimal}
use Rattle.std.specs.Str.{bytes_eq}
use Rattle.std.specs.Str.Parse.{digits_value, AllDigits}
use Rattle.std.proofs.lemmas.Bool.{and_parts}
use Rattle.std.proofs.lemmas.Bool.Decides.{nat_tests}
use Rattle.std.proofs.lemmas.Slice.Eq.{bytes_eq-Decides}
use Rattle.std.proofs.lemmas.Fmt.{decimal_is_IsNumeral_wide}
use Rattle.code_fields.specs.Fields.{numeral}
use Rattle.code_fields.proofs.CutLemmas.{Lacks}

-- a number below the limit passes the test
below : (limit n : ℕ) → n < limit → nat_lt n limit ≡ true
below limit n h = grind (arith, nat_tests)

-- and no other does
below_true : (limit n : ℕ) → nat_lt n limit ≡ true → n < limit
below_true limit n h = grind (arith, nat_tests)

-- a value that is taken passed its test
taken : (b : Bool) (m n : ℕ) → cond b (Some m) None ≡ Some n → (b ≡ true) × (m ≡ n)
taken true m n h = (refl, cc)
taken false m n h = cc

-- a text that is read as a number is that number's decimal form
pub numeral-some : (limit : ℕ) (token : List ℕ) (n : ℕ) → numeral limit token ≡ Some n
    → (n < limit) × (token ≡ decimal n)
unfolding numeral
numeral-some limit token n h =
    let v = digits_value 10 token in
    let got = taken (nat_lt v limit && bytes_eq (decimal v) token) v n h in
    let both = and_parts (nat_lt v limit) (bytes_eq (decimal v) token) got.0 in
    let same : decimal v ≡ token = (bytes_eq-Decides (decimal v) token).0 both.1 in
    let e : v ≡ n = got.1 in
    (subst (λ (m : ℕ). m < limit) e (below_true limit v both.0), sym same ∙ ap decimal e)

-- a decimal form is read as its number
pub numeral-decimal : (limit n : ℕ) → n < limit → n < 10 ^ 64 → numeral limit (decimal n) ≡ Some n
unfolding numeral
numeral-decimal limit n h wide =
    let v : digits_value 10 (decimal n) ≡ n = (decimal_is_IsNumeral_wide n wide).1 in
    rw (v, below limit n h, (bytes_eq-Decides (decimal n) (decimal n)).1 refl) refl

-- the number of each decimal form, and of no other text, is what the definition gives
is_given : (limit : ℕ) (token : List ℕ) (o r : Option ℕ) → limit ≤ 10 ^ 64 → numeral limit token ≡ r
    → ((v : ℕ) → v < limit → token ≡ decimal v → o ≡ Some v)
    → IfSome o (λ n. (n < limit) × (token ≡ decimal n)) → o ≡ r
is_given limit token o (Some v) few e all one = let h = numeral-some limit token v e in all v h.0 h.1
is_given limit token None None few e all one = refl
is_given limit token (Some n) None few e all one =
    let h = numeral-decimal limit n one.0 (omega (arith, one.0)) in
    let same : numeral limit token ≡ numeral limit (decimal n) = ap (numeral limit) one.1 in cc

-- what is the number of each decimal form, and of no other text
pub numeral-is : (limit : ℕ) (token : List ℕ) (o : Option ℕ) → limit ≤ 10 ^ 64
    → ((v : ℕ) → v < limit → token ≡ decimal v → o ≡ Some v)
    → IfSome o (λ n. (n < limit) × (token ≡ decimal n)) → o ≡ numeral limit token
numeral-is limit token o few all one = is_given limit token o (numeral limit token) few refl all one

-- a text that is no decimal form
pub numeral-none : (limit : ℕ) (token : List ℕ) → limit ≤ 10 ^ 64 → ((v : ℕ) → v < limit → token ≡ decimal v → ⊥)
    → None ≡ numeral limit token
numeral-none limit token few never = numeral-is limit token None few (λ v lt e. absurd (never v lt e)) tt

-- ---- one limit below another

-- no number below the wide limit is none below another
pub numeral-narrow_none : (limit : ℕ) (token : List ℕ) → limit ≤ 2 ^ 128 → None ≡ numeral (2 ^ 128) token
    → None ≡ numeral limit token
numeral-narrow_none limit token few h =
    numeral-none limit token (omega arith) (λ v lt e.
    let read : numeral (2 ^ 128) token ≡ Some v = ap (numeral (2 ^ 128)) e ∙ numeral-decimal (2 ^ 128) v (omega arith) (omega arith) in cc)

-- a number below both limits
pub numeral-narrow_some : (limit n : ℕ) (token : List ℕ) → limit ≤ 2 ^ 128 → Some n ≡ numeral (2 ^ 128) token → n < limit
    → Some n ≡ numeral limit token
numeral-narrow_some limit n token few h lt =
    let got = numeral-some (2 ^ 128) token n (sym h) in
    sym (ap (numeral limit) got.1 ∙ numeral-decimal limit n lt (omega arith))

-- a number below the wide limit alone
pub numeral-narrow_over : (limit n : ℕ) (token : List ℕ) → limit ≤ 2 ^ 128 → Some n ≡ numeral (2 ^ 128) token → limit ≤ n
    → None ≡ numeral limit token
numeral-narrow_over limit n token few h over =
    numeral-none limit token (omega arith) (λ v lt e.
    let read : numeral (2 ^ 128) token ≡ Some v = ap (numeral (2 ^ 128)) e ∙ numeral-decimal (2 ^ 128) v (omega arith) (omega arith) in
    let same : n ≡ v = cc in omega (arith, same))

-- ---- bytes that no number has

-- a byte that is no digit
abbrev pub IsNoDigit : ℕ → Type 0
IsNoDigit byte = (b : ℕ) → digit_value b < 10 → nat_eq b byte ≡ false

-- a newline, a space, a minus sign, a colon and an underscore
pub newline : IsNoDigit 10
newline b digit = grind (arith, nat_tests)

pub space : IsNoDigit 32
space b digit = grind (arith, nat_tests)

pub minus : IsNoDigit 45
minus b digit = grind (arith, nat_tests)

pub colon : IsNoDigit 58
colon b digit = grind (arith, nat_tests)

pub underscore : IsNoDigit 95
underscore b digit = grind (arith, nat_tests)

-- digits have no such byte
digits_lack : (byte : ℕ) (ds : List ℕ) → IsNoDigit byte → AllDigits 10 ds → Lacks byte ds
digits_lack byte [] other h = tt
digits_lack byte (d ∷ ds) other h = (other d h.0, digits_lack byte ds other h.1)

-- nor has a decimal form
pub decimal-lacks : (byte n : ℕ) → IsNoDigit byte → n < 10 ^ 64 → Lacks byte (decimal n)
decimal-lacks byte n other h = digits_lack byte (decimal n) other (decimal_is_IsNumeral_wide n h).0.1
