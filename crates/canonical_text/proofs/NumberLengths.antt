-- A number is as long where it is cut off after its end, and where other text stands after it.
use Rattle.std.proofs.Common.{◌≡◌, ℕ, zero, suc, ◌+◌, ◌-◌, ◌<◌, ◌≤◌, Bool, true, false, ◌&&◌, List, [], ◌∷◌, ◌++◌}
use Rattle.std.proofs.Common.{length, take, drop, refl, ap, inl, inr, eqb, ltb, add-one, arith}
use Rattle.std.specs.List.{prefix_len}
use Rattle.std.specs.Str.{byte}
use Rattle.std.proofs.lemmas.Bool.{cases_Bool, ltb-false, cond_both}
use Rattle.std.proofs.lemmas.Bool.Decides.{nat_tests}
use Rattle.std.proofs.lemmas.List.{take-append-le, drop-append-le, length-drop, drop-take}
use Rattle.std.proofs.lemmas.List.Sums.{prefix_len-le-length}
use Rattle.chart_lexer.specs.Bytes.{is_digit, is_name_byte, begins}
use Rattle.chart_lexer.specs.Numbers.{digits_length, fraction_length, is_scale, scale_length, decimal_length}
use Rattle.chart_lexer.specs.Numbers.{number_length}
use Rattle.canonical_text.proofs.Runs.{run_ends, run_some}

-- ---- text after it

-- after a word or a number: no byte of one, and no point
pub record Ends (s : List ℕ) : Type 0 where
  pub word : begins is_name_byte s ≡ false
  pub point : begins (λ b. eqb b (byte ".")) s ≡ false

-- what one test refuses, a narrower one refuses
begins_no : (p q : ℕ → Bool) (s : List ℕ) → ((b : ℕ) → q b ≡ false → p b ≡ false) → begins q s ≡ false
    → begins p s ≡ false
begins_no p q [] narrow h = refl
begins_no p q (b ∷ s) narrow h = narrow b h

-- no byte of a name is no digit
no_digit : (b : ℕ) → is_name_byte b ≡ false → is_digit b ≡ false
no_digit b h = grind (arith, nat_tests)

-- nor is it `q`
no_q : (b : ℕ) → is_name_byte b ≡ false → eqb b (byte "q") ≡ false
no_q b h = grind (arith, nat_tests)

-- the digits, the fraction and the scale are as long with such text after them
digits_behind : (x y : List ℕ) → Ends y → digits_length (x ++ y) ≡ digits_length x
digits_behind x y e = run_ends is_digit x y (begins_no is_digit is_name_byte y no_digit e.word)

-- what ends a number changes no fraction before it
fraction_behind : (x y : List ℕ) → Ends y → fraction_length (x ++ y) ≡ fraction_length x
unfolding fraction_length
fraction_behind [] [] e = refl
fraction_behind [] (c ∷ y) e = rw e.point refl
fraction_behind (b ∷ x) y e = rw (digits_behind x y e) refl

-- nor a scale
scale_behind : (x y : List ℕ) → Ends y → scale_length (x ++ y) ≡ scale_length x
unfolding scale_length
scale_behind [] [] e = refl
scale_behind [] (c ∷ y) e = rw (no_q c e.word) refl
scale_behind (b ∷ x) y e =
    rw (digits_behind x y e, take-append-le (digits_length x) x y (prefix_len-le-length is_digit x)) refl

-- ---- how long the parts are at most

-- a fraction is no longer than its text
fraction_within : (s : List ℕ) → fraction_length s ≤ length s
unfolding fraction_length
fraction_within [] = omega arith
fraction_within (b ∷ s) =
    let le = prefix_len-le-length is_digit s in
    cond_both (eqb b (byte ".") && ltb 0 (digits_length s)) (digits_length s + 1) 0 (λ (n : ℕ). n ≤ suc (length s))
    (λ _. omega arith) (λ _. omega arith)

-- nor are digits with a fraction
decimal_within : (s : List ℕ) → decimal_length s ≤ length s
unfolding decimal_length
decimal_within s =
    let le = prefix_len-le-length is_digit s in
    let more = fraction_within (drop (digits_length s) s) in
    omega (arith, length-drop (digits_length s) s)

-- what ends a number changes no digits before it
decimal_behind : (x y : List ℕ) → Ends y → decimal_length (x ++ y) ≡ decimal_length x
unfolding decimal_length
decimal_behind x y e =
    rw (
      digits_behind x y e,
      drop-append-le (digits_length x) x y (prefix_len-le-length is_digit x),
      fraction_behind (drop (digits_length x) x) y e,
    ) refl

-- a number is as long with such text after it
pub number_behind : (x y : List ℕ) → Ends y → number_length (x ++ y) ≡ number_length x
unfolding number_length
number_behind x y e =
    rw (
      decimal_behind x y e,
      drop-append-le (decimal_length x) x y (decimal_within x),
      scale_behind (drop (decimal_length x) x) y e,
    ) refl

-- ---- a number cut off after its end

-- a run of bytes, cut off at or after its end
prefix_cut : (p : ℕ → Bool) (n : ℕ) (s : List ℕ) → prefix_len p s ≤ n → prefix_len p (take n s) ≡ prefix_len p s
prefix_cut p zero s h = omega arith
prefix_cut p (suc n) [] h = refl
prefix_cut p (suc n) (b ∷ s) h =
    elim (cases_Bool (p b)) [
      | inl passes ↦ let fits = rw passes at h in rw (passes, prefix_cut p n s (omega arith)) refl
      | inr fails ↦ rw fails refl
    ]

-- the parts of a number, cut off at or after their end
digits_cut : (n : ℕ) (s : List ℕ) → digits_length s ≤ n → digits_length (take n s) ≡ digits_length s
digits_cut n s h = prefix_cut is_digit n s h

-- a fraction is as long where its text is cut off after it
fraction_cut : (n : ℕ) (s : List ℕ) → fraction_length s ≤ n → fraction_length (take n s) ≡ fraction_length s
unfolding fraction_length
fraction_cut zero s h = omega arith
fraction_cut (suc n) [] h = refl
fraction_cut (suc n) (b ∷ s) h =
    elim (cases_Bool (eqb b (byte "."))) [
      | inl point ↦
          elim (cases_Bool (ltb 0 (digits_length s))) [
            | inl some ↦ let fits = rw (point, some) at h in rw (digits_cut n s (omega arith)) refl
            | inr none ↦ let no = ltb-false 0 (digits_length s) none in rw (digits_cut n s (omega arith)) refl
          ]
      | inr other ↦ rw other refl
    ]

-- a text that is cut off twice at one place
cut_twice : (n : ℕ) (s : List ℕ) → take n (take n s) ≡ take n s
cut_twice zero s = refl
cut_twice (suc n) [] = refl
cut_twice (suc n) (b ∷ s) = ap (λ (t : List ℕ). b ∷ t) (cut_twice n s)

-- a scale is as long where its text is cut off after it
scale_cut : (s : List ℕ) → scale_length (take (scale_length s) s) ≡ scale_length s
unfolding scale_length
scale_cut [] = refl
scale_cut (b ∷ s) =
    let n : ℕ = digits_length s in
    elim (cases_Bool (eqb b (byte "q") && is_scale (take n s))) [
      | inl there ↦ rw (there, add-one, digits_cut n s (omega arith), cut_twice n s, there) (omega arith)
      | inr none ↦ rw none refl
    ]

-- and so are digits with a fraction
decimal_cut : (n : ℕ) (s : List ℕ) → decimal_length s ≤ n → decimal_length (take n s) ≡ decimal_length s
unfolding decimal_length
decimal_cut n s h =
    let d : ℕ = digits_length s in
    let rest : d + (n - d) ≡ n = omega arith in
    let back : drop d (take n s) ≡ take (n - d) (drop d s) = rw rest at (drop-take d (n - d) s) in
    rw (digits_cut n s (omega arith), back, fraction_cut (n - d) (drop d s) (omega arith)) refl

-- a number that is cut off after its end is still that number
pub number_cut : (s : List ℕ) → number_length (take (number_length s) s) ≡ number_length s
unfolding number_length
number_cut s =
    let d : ℕ = decimal_length s in
    let n : ℕ = scale_length (drop d s) in
    rw (decimal_cut (d + n) s (omega arith), drop-take d n s, scale_cut (drop d s)) refl

-- how long a number is at most
scale_within : (s : List ℕ) → scale_length s ≤ length s
unfolding scale_length
scale_within [] = omega arith
scale_within (b ∷ s) =
    let le = prefix_len-le-length is_digit s in
    cond_both (eqb b (byte "q") && is_scale (take (digits_length s) s)) (digits_length s + 1) 0
    (λ (n : ℕ). n ≤ suc (length s)) (λ _. omega arith) (λ _. omega arith)

-- a number is no longer than its text
pub number_within : (s : List ℕ) → number_length s ≤ length s
unfolding number_length
number_within s =
    let le = decimal_within s in
    let more = scale_within (drop (decimal_length s) s) in
    omega (arith, length-drop (decimal_length s) s)

-- a number has a digit at least
pub number_some : (s : List ℕ) → begins is_digit s ≡ true → 0 < number_length s
unfolding number_length decimal_length
number_some s h = let some = run_some is_digit s h in omega arith
