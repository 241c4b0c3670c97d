-- Digits: where they end, what they tell, and the digits of a number.
use Rattle.std.proofs.Common.{◌≡◌, ℕ, zero, suc, ◌+◌, ◌-◌, ◌*◌, ◌/◌, ◌%◌, ◌^◌, ◌<◌, ◌≤◌}
use Rattle.std.proofs.Common.{Bool, true, false, cond, nat_eq, List, [], ◌∷◌, ◌++◌, length}
use Rattle.std.proofs.Common.{take, drop, decimal, refl, ap, ◌∙◌, length-append, arith}
use Rattle.std.proofs.Math.Nat.{mod-one, pow-suc}
use Rattle.std.proofs.lemmas.Nat.{mul-le, div-mul-add, mod-mul-add, div-add-mod', mod_below}
use Rattle.std.proofs.lemmas.Bool.Decides.{nat_tests}
use Rattle.std.proofs.lemmas.List.{take_at, drop_at}
use Rattle.std.proofs.lemmas.List.Sums.{prefix_len_is}
use Rattle.std.proofs.lemmas.List.Folds.{prefix_len-append}
use Rattle.std.proofs.lemmas.Fmt.{decimal_by_steps_wide}
use Rattle.std.specs.List.{prefix_len, AllPass}
use Rattle.std.specs.Char.{is_ascii_digit}
use Rattle.fixed_point.specs.Text.{last_digits}
use Rattle.fixed_point.specs.Reading.{leading_digits, after_digits, value_after, value_of}
use Rattle.fixed_point.proofs.Powers.{ten_some}
use Rattle.fixed_point.proofs.Values.{value_after-append, digit_within, AllPass-leading}

-- ---- where digits end

-- all of these are digits
abbrev pub AreDigits : List ℕ → Type 0
AreDigits ds = prefix_len is_ascii_digit ds ≡ length ds

-- a list of which each is a digit is all digits at its front
pub AreDigits-from_pass : (ds : List ℕ) → AllPass is_ascii_digit ds → AreDigits ds
AreDigits-from_pass ds pass =
    prefix_len_is is_ascii_digit ds (length ds) 0 (omega arith) (λ k below. pass k 0 below)
    (λ past. absurd (omega arith))

-- the digits in front of a text are digits
pub leading-AreDigits : (text : List ℕ) → AreDigits (leading_digits text)
leading-AreDigits text = AreDigits-from_pass (leading_digits text) (AllPass-leading text)

-- what stands after digits goes on from there
pub prefix_behind : (front back : List ℕ) → AreDigits front →
    prefix_len is_ascii_digit (front ++ back) ≡ length front + prefix_len is_ascii_digit back
prefix_behind front back all =
    let same : nat_eq (prefix_len is_ascii_digit front) (length front) ≡ true = equal_numbers _ _ all in
    prefix_len-append is_ascii_digit front back
    ∙ ap (λ (b : Bool). cond b (length front + prefix_len is_ascii_digit back) (prefix_len is_ascii_digit front)) same
  where
    equal_numbers : (m n : ℕ) → m ≡ n → nat_eq m n ≡ true
    equal_numbers m n e = grind (arith, nat_tests)

-- digits with no digit after them are the digits in front
pub front_digits : (digits rest : List ℕ) → AreDigits digits → prefix_len is_ascii_digit rest ≡ 0 →
    leading_digits (digits ++ rest) ≡ digits
front_digits digits rest all none =
    let count : prefix_len is_ascii_digit (digits ++ rest) ≡ length digits =
    prefix_behind digits rest all ∙ omega (arith, none) in
    ap (λ (x : ℕ). take x (digits ++ rest)) count ∙ take_at digits rest (length digits) refl

-- and the rest comes after them
pub back_digits : (digits rest : List ℕ) → AreDigits digits → prefix_len is_ascii_digit rest ≡ 0 →
    after_digits (digits ++ rest) ≡ rest
back_digits digits rest all none =
    let size : length (leading_digits (digits ++ rest)) ≡ length digits =
    ap length (front_digits digits rest all none) in
    ap (λ (x : ℕ). drop x (digits ++ rest)) size ∙ drop_at digits rest (length digits) refl

-- the first of digits is one
pub first_digit : (d : ℕ) (ds : List ℕ) → AreDigits (d ∷ ds) → is_ascii_digit d ≡ true
first_digit d ds all = by_digit (is_ascii_digit d) refl all
  where
    by_digit : (b : Bool) → is_ascii_digit d ≡ b → cond b (1 + prefix_len is_ascii_digit ds) 0 ≡ suc (length ds) →
        is_ascii_digit d ≡ true
    by_digit true e all = e
    by_digit false e all = absurd (omega (arith, all))

-- and the others are
pub other_digits : (d : ℕ) (ds : List ℕ) → AreDigits (d ∷ ds) → AreDigits ds
other_digits d ds all = by_digit (is_ascii_digit d) all
  where
    by_digit : (b : Bool) → cond b (1 + prefix_len is_ascii_digit ds) 0 ≡ suc (length ds) → AreDigits ds
    by_digit true all = omega (arith, all)
    by_digit false all = absurd (omega (arith, all))

-- ---- one more digit

-- the byte of a digit is one
pub digit_passes : (d : ℕ) → d < 10 → is_ascii_digit (48 + d) ≡ true
digit_passes d below = grind (arith, nat_tests)

-- and so it is as a list
pub one-AreDigits : (d : ℕ) → d < 10 → AreDigits ((48 + d) ∷ [])
one-AreDigits d below = ap (λ (b : Bool). cond b 1 0) (digit_passes d below)

-- digits after digits
pub append-AreDigits : (front back : List ℕ) → AreDigits front → AreDigits back → AreDigits (front ++ back)
append-AreDigits front back all all_back =
    prefix_behind front back all ∙ omega (arith, all_back, length-append front back)

-- the value of digits and one more
pub value_push : (v : ℕ) (ds : List ℕ) (d : ℕ) → value_after v (ds ++ (48 + d) ∷ []) ≡ value_after v ds * 10 + d
unfolding value_after
value_push v ds d =
    let last : 48 + d - 48 ≡ d = omega arith in
    value_after-append v ds ((48 + d) ∷ []) ∙ ap (λ (x : ℕ). value_after v ds * 10 + x) last

-- ---- the digits of a number

-- digits that tell a number
pub record IsNumeral (n : ℕ) (ds : List ℕ) : Type 0 where
  pub all : AreDigits ds
  pub some : 0 < length ds
  pub value : value_of ds ≡ n

-- a digit tells itself
numeral_digit : (n : ℕ) → n < 10 → IsNumeral n ((48 + n) ∷ [])
unfolding value_after
numeral_digit n below =
    record { all = one-AreDigits n below; some = omega arith; value = omega arith }

-- one more digit tells ten times the number, and the digit
numeral_step : (n : ℕ) (ds : List ℕ) → 10 ≤ n → IsNumeral (n / 10) ds → IsNumeral n (ds ++ (48 + n % 10) ∷ [])
numeral_step n ds many front =
    let below : n % 10 < 10 = mod_below n 10 (omega arith) in
    record {
      all = append-AreDigits ds ((48 + n % 10) ∷ []) front.all (one-AreDigits (n % 10) below);
      some = omega (arith, length-append ds ((48 + n % 10) ∷ []));
      value = value_push 0 ds (n % 10) ∙ ap (λ (x : ℕ). x * 10 + n % 10) front.value ∙ div-add-mod' n 10;
    }

-- the decimal text of a number tells it
pub numeral_decimal : (n : ℕ) → n < 10 ^ 64 → IsNumeral n (decimal n)
numeral_decimal n fits = decimal_by_steps_wide IsNumeral numeral_digit numeral_step n fits

-- the last digits of a number are digits
pub last-AreDigits : (k n : ℕ) → AreDigits (last_digits k n)
unfolding last_digits
last-AreDigits zero n = refl
last-AreDigits (suc k) n =
    append-AreDigits (last_digits k (n / 10)) ((48 + n % 10) ∷ []) (last-AreDigits k (n / 10))
    (one-AreDigits (n % 10) (mod_below n 10 (omega arith)))

-- the last k + 1 digits, by the last and those before it
rest_by_digit : (n s : ℕ) → 0 < s → n % (s * 10) ≡ ((n / 10) % s) * 10 + n % 10
rest_by_digit n s some =
    let a = n / 10 in
    let small : n % 10 < 10 = mod_below n 10 (omega arith) in
    let below : a % s < s = mod_below a s some in
    let parts : n ≡ a / s * (s * 10) + ((a % s) * 10 + n % 10) =
    omega (arith, div-add-mod' n 10, ap (λ (x : ℕ). x * 10) (div-add-mod' a s)) in
    ap (λ (x : ℕ). x % (s * 10)) parts ∙ mod-mul-add (a / s) (s * 10) ((a % s) * 10 + n % 10) (omega arith)

-- a number before the digit, and the digit
value_more : (v k n : ℕ) → (v * 10 ^ k + (n / 10) % 10 ^ k) * 10 + n % 10 ≡ v * 10 ^ suc k + n % 10 ^ suc k
value_more v k n =
    omega (
      arith,
      rest_by_digit n (10 ^ k) (ten_some k),
      ap (λ (x : ℕ). v * x) (pow-suc 10 k),
      ap (λ (x : ℕ). n % x) (pow-suc 10 k),
    )

-- the value of the last digits, after another number
pub value_last : (v k n : ℕ) → value_after v (last_digits k n) ≡ v * 10 ^ k + n % 10 ^ k
unfolding last_digits value_after
value_last v zero n = omega (arith, mod-one n)
value_last v (suc k) n =
    value_push v (last_digits k (n / 10)) (n % 10) ∙ ap (λ (x : ℕ). x * 10 + n % 10) (value_last v k (n / 10))
    ∙ value_more v k n

-- ---- bounds of what digits tell

-- digits after a number leave it at the front
pub value_bounds : (v : ℕ) (ds : List ℕ) → AreDigits ds →
    (v * 10 ^ length ds ≤ value_after v ds) × (value_after v ds < (v + 1) * 10 ^ length ds)
unfolding value_after
value_bounds v [] all = (omega arith, omega arith)
value_bounds v (d ∷ ds) all =
    let w = v * 10 + (d - 48) in
    let p = 10 ^ length ds in
    let bounds = value_bounds w ds (other_digits d ds all) in
    let within = digit_within d (first_digit d ds all) in
    let low : (v * 10) * p ≤ w * p = mul-le (v * 10) p w p (omega arith) (omega arith) in
    let high : (w + 1) * p ≤ ((v + 1) * 10) * p = mul-le (w + 1) p ((v + 1) * 10) p (omega arith) (omega arith) in (
      omega (arith, low, bounds.0, ap (λ (x : ℕ). v * x) (pow-suc 10 (length ds))),
      omega (arith, high, bounds.1, ap (λ (x : ℕ). (v + 1) * x) (pow-suc 10 (length ds))),
    )

-- what lies between two multiples
pub whole_by_bounds : (q u s : ℕ) → q * s ≤ u → u < (q + 1) * s → u / s ≡ q
whole_by_bounds q u s low high =
    let rest : u - q * s < s = omega (arith, low, high) in
    let parts : u ≡ q * s + (u - q * s) = omega (arith, low) in
    ap (λ (x : ℕ). x / s) parts ∙ div-mul-add q s (u - q * s) rest
