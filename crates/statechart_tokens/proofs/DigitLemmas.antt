-- Numbers of one or two digits.
use Rattle.std.proofs.Common.{◌≡◌, ℕ, ◌+◌, ◌-◌, ◌*◌, ◌/◌, ◌%◌, ◌<◌, ◌≤◌, Bool, true, false, nat_lt, if◌then◌else◌}
use Rattle.std.proofs.Common.{List, [], ◌∷◌, ◌++◌, length, get_or, Some, None, inl, inr, ◌⊎◌, ⊎_elim, refl, sym, ap}
use Rattle.std.proofs.Common.{◌∙◌, arith}
use Rattle.std.specs.Fmt.{decimal}
use Rattle.std.specs.Str.{bytes_eq}
use Rattle.std.proofs.lemmas.Bool.{cases_lt}
use Rattle.std.proofs.lemmas.Bool.Decides.{nat_tests}
use Rattle.std.proofs.lemmas.Slice.Eq.{bytes_eq-Decides}
use Rattle.std.proofs.lemmas.Fmt.{decimal_digit, decimal_step}
use Rattle.fixed_point.specs.Reading.{value_of, value_after}
use Rattle.chart_grammar.specs.Types.{plain_number}
use Rattle.statechart_tokens.specs.Types.{below_hundred}

-- ---- numbers below 100

-- the text of a number below 10
decimal_one : (n : ℕ) → n < 10 → decimal n ≡ (48 + n) ∷ []
decimal_one n small = decimal_digit n small

-- the text of a number from 10 to 99
decimal_two : (n : ℕ) → 10 ≤ n → n < 100 → decimal n ≡ (48 + n / 10) ∷ (48 + n % 10) ∷ []
decimal_two n large small = decimal_step n large (omega arith)
    ∙ ap (λ (ds : List ℕ). ds ++ (48 + n % 10) ∷ []) (decimal_digit (n / 10) (omega arith))

-- the number whose text it is
number_is : (text : List ℕ) (n : ℕ) → value_of text ≡ n → n < 100 → decimal n ≡ text
    → below_hundred (plain_number text) ≡ Some n
number_is text n value small told =
    let same : bytes_eq (decimal n) text ≡ true = (bytes_eq-Decides (decimal n) text).1 told in
    let below : nat_lt n 100 ≡ true = grind (arith, nat_tests) in
    rw value (rw same (rw below refl))

-- no number below 100 has that text
no_number : (text : List ℕ) (n : ℕ) → value_of text ≡ n → (n < 100 → decimal n ≡ text → ⊥)
    → below_hundred (plain_number text) ≡ None
no_number text n value other = rw value (by_test (bytes_eq (decimal n) text) (nat_lt n 100) refl refl)
  where
    by_test : (same small : Bool) → bytes_eq (decimal n) text ≡ same → nat_lt n 100 ≡ small
        → below_hundred (if same then Some n else None) ≡ None
    by_test true true e lt = absurd (other (grind (arith, nat_tests)) ((bytes_eq-Decides (decimal n) text).0 e))
    by_test true false e lt = rw lt refl
    by_test false small e lt = refl

-- the text of a number below 100 has one or two digits
length-decimal : (n : ℕ) → n < 100 → (length (decimal n) ≡ 1) ⊎ (length (decimal n) ≡ 2)
length-decimal n small =
    ⊎_elim (λ lt. inl (ap length (decimal_one n lt))) (λ ge. inr (ap length (decimal_two n ge small))) (cases_lt n 10)

-- ---- by digits

-- no digits tell a number
pub no_digit : (text : List ℕ) → length text < 1 → below_hundred (plain_number text) ≡ None
no_digit text short =
    no_number text (value_of text) refl (λ small told.
    let same = ap length told in
    ⊎_elim (λ e. omega arith) (λ e. omega arith) (length-decimal (value_of text) small))

-- three and more tell one from 100 on, if they tell one
pub many_digits : (text : List ℕ) → 3 ≤ length text → below_hundred (plain_number text) ≡ None
many_digits text long =
    no_number text (value_of text) refl (λ small told.
    let same = ap length told in
    ⊎_elim (λ e. omega arith) (λ e. omega arith) (length-decimal (value_of text) small))

-- the number of one byte, and of two
value_one : (d : ℕ) → value_of (d ∷ []) ≡ d - 48
unfolding value_after
value_one d = omega arith

-- the value of two digits
value_two : (t d : ℕ) → value_of (t ∷ d ∷ []) ≡ (t - 48) * 10 + (d - 48)
unfolding value_after
value_two t d = omega arith

-- a digit, and another byte
pub one_is : (d : ℕ) → 48 ≤ d → d ≤ 57 → below_hundred (plain_number (d ∷ [])) ≡ Some (d - 48)
one_is d from to =
    let same : 48 + (d - 48) ≡ d = omega arith in
    number_is (d ∷ []) (d - 48) (value_one d) (omega arith)
    (decimal_one (d - 48) (omega arith) ∙ ap (λ (x : ℕ). x ∷ []) same)

-- a byte that is no digit is no number below 100
pub one_other : (d : ℕ) → (48 ≤ d → d ≤ 57 → ⊥) → below_hundred (plain_number (d ∷ [])) ≡ None
one_other d other =
    no_number (d ∷ []) (d - 48) (value_one d) (λ small told.
    ⊎_elim
    (λ lt.
    let same : 48 + (d - 48) ≡ d = ap (λ (ds : List ℕ). get_or ds 0 0) (sym (decimal_one (d - 48) lt) ∙ told) in
    other (omega arith) (omega arith))
    (λ ge.
    let long : 2 ≡ 1 = ap length (sym (decimal_two (d - 48) ge small) ∙ told) in
    omega arith)
    (cases_lt (d - 48) 10))

-- two digits without a leading zero, and two other bytes
pub two_are : (t d : ℕ) → 49 ≤ t → t ≤ 57 → 48 ≤ d → d ≤ 57
    → below_hundred (plain_number (t ∷ d ∷ [])) ≡ Some ((t - 48) * 10 + (d - 48))
two_are t d from to from' to' =
    let n = (t - 48) * 10 + (d - 48) in
    let first : 48 + n / 10 ≡ t = omega arith in
    let second : 48 + n % 10 ≡ d = omega arith in
    number_is (t ∷ d ∷ []) n (value_two t d) (omega arith)
    (decimal_two n (omega arith) (omega arith) ∙ ap (λ (x : ℕ). x ∷ (48 + n % 10) ∷ []) first
    ∙ ap (λ (x : ℕ). t ∷ x ∷ []) second)

-- nor are two bytes that aren't digits, the first of them no 0
pub two_other : (t d : ℕ) → (49 ≤ t → t ≤ 57 → 48 ≤ d → d ≤ 57 → ⊥) → below_hundred (plain_number (t ∷ d ∷ [])) ≡ None
two_other t d other =
    let n = (t - 48) * 10 + (d - 48) in
    no_number (t ∷ d ∷ []) n (value_two t d) (λ small told.
    ⊎_elim
    (λ lt.
    let short : 1 ≡ 2 = ap length (sym (decimal_one n lt) ∙ told) in
    omega arith)
    (λ ge.
    let all = sym (decimal_two n ge small) ∙ told in
    let first : 48 + n / 10 ≡ t = ap (λ (ds : List ℕ). get_or ds 0 0) all in
    let second : 48 + n % 10 ≡ d = ap (λ (ds : List ℕ). get_or ds 1 0) all in
    other (omega arith) (omega arith) (omega arith) (omega arith))
    (cases_lt n 10))
