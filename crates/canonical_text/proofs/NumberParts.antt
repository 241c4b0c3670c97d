-- Every text that is one number has the parts of one.
use Rattle.std.proofs.Common.{◌≡◌, ℕ, ◌+◌, ◌<◌, Bool, true, cond, nat_lt, nat_eq, ◌&&◌, List, [], ◌∷◌, ◌++◌, length}
use Rattle.std.proofs.Common.{drop, refl, sym, ap, ◌∙◌, inl, inr, add-one, arith}
use Rattle.std.proofs.lemmas.Bool.{cases_Bool, eqb-true, ltb-true, and_parts}
use Rattle.std.proofs.lemmas.List.{take-append-drop, drop-drop, drop_all, append-nil}
use Rattle.std.proofs.lemmas.List.Folds.{length-prefix_len}
use Rattle.std.specs.Char.{is_ascii_digit}
use Rattle.fixed_point.specs.Reading.{leading_digits}
use Rattle.fixed_point.proofs.Numerals.{AreDigits, leading-AreDigits}
use Rattle.chart_lexer.specs.Bytes.{is_digit}
use Rattle.chart_lexer.specs.Numbers.{digits_length, fraction_length, is_scale, scale_length, decimal_length}
use Rattle.chart_lexer.specs.Numbers.{number_length}
use Rattle.canonical_text.specs.Words.{IsNumber}
use Rattle.canonical_text.proofs.Runs.{run_some}
use Rattle.canonical_text.proofs.Forms.{point, mark, form, ScaleIfAny, IsForm}

-- ---- a point and digits

-- what stands in front is a point and digits, or nothing
record Fraction (text : List ℕ) (size : ℕ) : Type 0 where
  digits : List ℕ
  rest : List ℕ
  are : AreDigits digits
  parts : text ≡ point digits ++ rest
  behind : drop size text ≡ rest

-- where there are digits, a point stands before them
pub point_of : (ds rest : List ℕ) → 0 < length ds → point ds ++ rest ≡ 46 ∷ (ds ++ rest)
point_of [] rest some = absurd (omega arith)
point_of (d ∷ ds) rest some = refl

-- digits and what is after them
leading_parts : (s : List ℕ) → s ≡ leading_digits s ++ drop (digits_length s) s
leading_parts s = sym (take-append-drop (digits_length s) s)

-- what the fraction's length cuts off is a point and digits, or nothing
fraction_parts : (text : List ℕ) → Fraction text (fraction_length text)
unfolding fraction_length
fraction_parts [] = record { digits = []; rest = []; are = refl; parts = refl; behind = refl }
fraction_parts (b ∷ s) =
    let n : ℕ = digits_length s in
    let sized : Bool → ℕ = λ (t : Bool). cond t (n + 1) 0 in
    elim (cases_Bool (nat_eq b 46 && nat_lt 0 n)) [
      | inl there ↦
          let tests = and_parts (nat_eq b 46) (nat_lt 0 n) there in
          let dot : b ≡ 46 = eqb-true b 46 tests.0 in
          let some : 0 < n = ltb-true 0 n tests.1 in
          let size : 0 < length (leading_digits s) = omega (arith, length-prefix_len is_ascii_digit s) in
          record {
            digits = leading_digits s;
            rest = drop n s;
            are = leading-AreDigits s;
            parts = ap (λ (x : ℕ). x ∷ s) dot ∙ ap (λ (x : List ℕ). 46 ∷ x) (leading_parts s)
                ∙ sym (point_of (leading_digits s) (drop n s) size);
            behind = ap (λ (t : Bool). drop (sized t) (b ∷ s)) there ∙ ap (λ (k : ℕ). drop k (b ∷ s)) (add-one n);
          }
      | inr none ↦ record {
        digits = [];
        rest = b ∷ s;
        are = refl;
        parts = refl;
        behind = ap
            (λ (t : Bool). drop (sized t) (b ∷ s)) none;
      }
    ]

-- ---- `q` and a scale

-- what stands in front is `q` and a scale, or nothing
record Marked (text : List ℕ) (size : ℕ) : Type 0 where
  digits : List ℕ
  rest : List ℕ
  are : AreDigits digits
  scale : ScaleIfAny digits
  parts : text ≡ mark digits ++ rest
  behind : drop size text ≡ rest

-- digits after `q` that name a scale are one or two
scale_if_any : (ds : List ℕ) → is_scale ds ≡ true → ScaleIfAny ds
scale_if_any [] e = absurd cc
scale_if_any (d ∷ ds) e = e

-- where there is a scale, `q` stands before it
mark_of : (ds rest : List ℕ) → is_scale ds ≡ true → mark ds ++ rest ≡ 113 ∷ (ds ++ rest)
mark_of [] rest some = absurd cc
mark_of (d ∷ ds) rest some = refl

-- what the scale's length cuts off is `q` and digits, or nothing
scale_parts : (text : List ℕ) → Marked text (scale_length text)
unfolding scale_length
scale_parts [] = record { digits = []; rest = []; are = refl; scale = tt; parts = refl; behind = refl }
scale_parts (b ∷ s) =
    let n : ℕ = digits_length s in
    let sized : Bool → ℕ = λ (t : Bool). cond t (n + 1) 0 in
    elim (cases_Bool (nat_eq b 113 && is_scale (leading_digits s))) [
      | inl there ↦
          let tests = and_parts (nat_eq b 113) (is_scale (leading_digits s)) there in
          let q : b ≡ 113 = eqb-true b 113 tests.0 in
          record {
            digits = leading_digits s;
            rest = drop n s;
            are = leading-AreDigits s;
            scale = scale_if_any (leading_digits s) tests.1;
            parts = ap (λ (x : ℕ). x ∷ s) q ∙ ap (λ (x : List ℕ). 113 ∷ x) (leading_parts s)
                ∙ sym (mark_of (leading_digits s) (drop n s) tests.1);
            behind = ap (λ (t : Bool). drop (sized t) (b ∷ s)) there ∙ ap (λ (k : ℕ). drop k (b ∷ s)) (add-one n);
          }
      | inr none ↦ record {
        digits = [];
        rest = b ∷ s;
        are = refl;
        scale = tt;
        parts = refl;
        behind = ap
            (λ (t : Bool). drop (sized t) (b ∷ s)) none;
      }
    ]

-- ---- the whole text

-- the parts of a number
pub record HasForm (text : List ℕ) : Type 0 where
  pub whole : List ℕ
  pub behind : List ℕ
  pub bits : List ℕ
  pub is : IsForm whole behind bits
  pub parts : text ≡ form whole behind bits

-- a number is made of them
pub number_parts : (text : List ℕ) → IsNumber text → HasForm text
unfolding number_length decimal_length
number_parts text number =
    let n : ℕ = digits_length text in
    let rest : List ℕ = drop n text in
    let fraction = fraction_parts rest in
    let m : ℕ = fraction_length rest in
    let last : List ℕ = drop (n + m) text in
    let scale = scale_parts last in
    let k : ℕ = scale_length last in
    let last_is : last ≡ fraction.rest = sym (drop-drop m n text) ∙ fraction.behind in
    let none : scale.rest ≡ [] =
    sym scale.behind ∙ drop-drop k (n + m) text ∙ drop_all (n + m + k) text (omega (arith, number.1)) in
    let marked : fraction.rest ≡ mark scale.digits =
    sym last_is ∙ scale.parts ∙ ap (λ (r : List ℕ). mark scale.digits ++ r) none ∙ append-nil (mark scale.digits) in
    record {
      whole = leading_digits text;
      behind = fraction.digits;
      bits = scale.digits;
      is = record {
        whole = leading-AreDigits text;
        some = omega (arith, run_some is_digit text number.0, length-prefix_len is_ascii_digit text);
        behind = fraction.are;
        bits = scale.are;
        scale = scale.scale;
      };
      parts = leading_parts text
          ∙ ap (λ (r : List ℕ). leading_digits text ++ r)
          (fraction.parts ∙ ap (λ (r : List ℕ). point fraction.digits ++ r) marked);
    }
