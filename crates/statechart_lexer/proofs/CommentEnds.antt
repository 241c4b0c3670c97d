-- Where a comment ends, as a loop finds it.
use Rattle.std.proofs.Common.{◌≡◌, ℕ, zero, suc, ◌+◌, ◌-◌, ◌≤◌, ◌<◌, true, false, List, [], ◌∷◌, Option, Some, None}
use Rattle.std.proofs.Common.{length, drop, take, get_or, refl, sym, ap, ◌∙◌, arith}
use Rattle.std.specs.Option.{option_map}
use Rattle.std.specs.Str.{byte}
use Rattle.chart_lexer.specs.Bytes.{is_allowed}
use Rattle.statechart_lexer.specs.Comments.{begins_with, comment_rest}
use Rattle.statechart_lexer.proofs.Cuts.{drop_at, rest_of}

-- so many bytes more
abbrev pub later : ℕ → Option ℕ → Option ℕ
later n None = None
later n (Some m) = Some (n + m)

-- one byte more in front
later_suc : (n : ℕ) (o : Option ℕ) → later n (option_map suc o) ≡ later (n + 1) o
later_suc n None = refl
later_suc n (Some m) = let e : n + suc m ≡ n + 1 + m = omega arith in rw e refl

module _ (s : List ℕ) (i : ℕ) (total : Option ℕ) (lt : i < length s)
    (so_far : later i (comment_rest (drop i s)) ≡ total) where
  -- a byte that no text may have
  pub at_bad : is_allowed (get_or s i 0) ≡ false → Some i ≡ total
  unfolding comment_rest
  at_bad bad =
      let here : comment_rest (drop i s) ≡ Some 0 = rw (drop_at s i lt, bad) refl in
      let e : i + 0 ≡ i = omega arith in
      sym (ap (λ (n : ℕ). Some n) e) ∙ sym (ap (later i) here) ∙ so_far

  -- the end of the comment
  pub at_end : is_allowed (get_or s i 0) ≡ true
      → begins_with (byte "*") (byte "/") (take (length s - i) (drop i s)) ≡ true → Some (i + 2) ≡ total
  unfolding comment_rest
  at_end good ends =
      let there : begins_with (byte "*") (byte "/") (get_or s i 0 ∷ drop (i + 1) s) ≡ true =
      ap (begins_with (byte "*") (byte "/")) (sym (rest_of i s ∙ drop_at s i lt)) ∙ ends in
      let here : comment_rest (drop i s) ≡ Some 2 = rw (drop_at s i lt, good, there) refl in
      sym (ap (later i) here) ∙ so_far

  -- one byte more
  pub goes_on : is_allowed (get_or s i 0) ≡ true
      → begins_with (byte "*") (byte "/") (take (length s - i) (drop i s)) ≡ false
      → later (i + 1) (comment_rest (drop (i + 1) s)) ≡ total
  unfolding comment_rest
  goes_on good ends =
      let there : begins_with (byte "*") (byte "/") (get_or s i 0 ∷ drop (i + 1) s) ≡ false =
      ap (begins_with (byte "*") (byte "/")) (sym (rest_of i s ∙ drop_at s i lt)) ∙ ends in
      let here : comment_rest (drop i s) ≡ option_map suc (comment_rest (drop (i + 1) s)) =
      rw (drop_at s i lt, good, there) refl in
      sym (later_suc i _) ∙ sym (ap (later i) here) ∙ so_far

-- the text ends before the comment
pub at_text_end : (s : List ℕ) (i : ℕ) (total : Option ℕ) → length s ≤ i
    → later i (comment_rest (drop i s)) ≡ total → None ≡ total
unfolding comment_rest
at_text_end s i total ge so_far = let e : drop i s ≡ [] = none s i ge in rw e at so_far
  where
    none : (s : List ℕ) (i : ℕ) → length s ≤ i → drop i s ≡ []
    none [] zero le = refl
    none [] (suc i) le = refl
    none (b ∷ s) zero le = absurd (omega arith)
    none (b ∷ s) (suc i) le = none s i (omega arith)
