-- The memory before a start, and numbers of states that serve.
use Rattle.std.proofs.Common.{◌≡◌, ℕ, zero, suc, ◌<◌, ◌≤◌, [], ◌∷◌, length, Some, Bool, true, false, refl, sym, ap, ◌∙◌}
use Rattle.std.proofs.Common.{⊎_elim, arith, get_or, inl, inr}
use Rattle.std.proofs.lemmas.Bool.{cases_lt}
use Rattle.std.proofs.lemmas.List.{length-replicate, get_or-replicate}
use Rattle.std.proofs.Math.ListN.{get_or-eq_default}
use Rattle.std.specs.Prelude.{◌==◌, replicate}
use Rattle.active_config.specs.Tree.{Tree, state_count, parent_of}
use Rattle.active_config.specs.Marks.{no_marks}
use Rattle.active_config.proofs.MarksLemmas.{none_on, none_last}
use Rattle.std.proofs.Common.{cond, length-append, ◌+◌, subst}
use Rattle.std.specs.Prelude.{◌⊎◌, if◌then◌else◌}
use Rattle.std.specs.List.{filter, range_with_len}
use Rattle.active_config.specs.Tree.{is_child, children_below}
use Rattle.active_config.proofs.RangeLemmas.{filter-range_more}
use Rattle.active_config.proofs.ChildLemmas.{child_of_parent}
use Rattle.c_functions.specs.States.{Numbers, Shows, number, no_fields, rank_by, place_number}
use Rattle.c_functions.proofs.StatesTests.{differ}

-- 1 + the number of the state
pub suc_numbers : (t : Tree) → Numbers t (λ x. suc x)
suc_numbers t = record { some = λ x e. absurd (omega (arith, e)); apart = λ p x y ux uy e. omega (arith, e) }

-- every entry of a list of zeros is 0
zeros : (k i : ℕ) → get_or (replicate k zero) i zero ≡ zero
zeros k i = ⊎_elim
    (λ lt. get_or-replicate k i zero zero lt)
    (λ le. let past : length (replicate k zero) ≤ i = omega (arith, le, length-replicate k zero) in get_or-eq_default
    (replicate k zero) zero past)
    (cases_lt i k)

offs : (k i : ℕ) → get_or (replicate k false) i false ≡ false
offs k i = ⊎_elim
    (λ lt. get_or-replicate k i false false lt)
    (λ le. let past : length (replicate k false) ≤ i = omega (arith, le, length-replicate k false) in get_or-eq_default
    (replicate k false) false past)
    (cases_lt i k)

-- fields that are all 0 show that no state is active and none is remembered
pub no_fields_show : (t : Tree) (n : ℕ → ℕ) → Numbers t n → Shows t n (no_fields t) (no_marks t)
unfolding no_fields
no_fields_show t n num = record {
  chosen_length = length-replicate (state_count t) 0;
  flags_length = length-replicate (state_count t) false;
  kept_length = length-replicate (state_count t) 0;
  ons = λ p x up o. ap (λ i. i == n x) (zeros (state_count t) p) ∙ differ 0 (n x) (λ e. num.some x (sym e)) ∙ sym
      (none_on t x);
  child = λ p o. inl (zeros (state_count t) p);
  no_choice = λ p o. zeros (state_count t) p;
  bits = λ x e. offs (state_count t) x ∙ sym (none_on t x);
  no_bits = λ p x e. offs (state_count t) x;
  lasts = λ p. zeros (state_count t) p ∙ sym (ap (number n) (none_last t p));
}

-- ---- 1 + how many siblings come before

-- with one number more there are as many children or one more
count_more : (t : Tree) (p y : ℕ) → length (children_below t p (suc y)) ≡ length (children_below t p y) +
    (if is_child t p y then 1 else 0)
unfolding children_below
count_more t p y =
    ap length (filter-range_more (is_child t p) 0 y) ∙ length-append (filter (is_child t p) (range_with_len 0 y))
    (cond (is_child t p (0 + y)) ((0 + y) ∷ []) [])
    ∙ ap (λ i. length (filter (is_child t p) (range_with_len 0 y)) + length
    (cond (is_child t p i) (i ∷ []) [])) zero_more
    ∙ ap (λ i. length (filter (is_child t p) (range_with_len 0 y)) + i) (one (is_child t p y))
  where
    zero_more : 0 + y ≡ y
    zero_more = omega arith

    one : (b : Bool) → length (cond b (y ∷ []) []) ≡ (if b then 1 else 0)
    one true = refl
    one false = refl

-- a child counts for each number after it
count_after : (t : Tree) (p x y : ℕ) → is_child t p x ≡ true → x < y
    → length (children_below t p x) + 1 ≤ length (children_below t p y)
count_after t p x zero c lt = absurd (omega arith)
count_after t p x (suc y) c lt = at (λ less. count_after t p x y c less) (cases_lt x y)
  where
    at : (x < y → length (children_below t p x) + 1 ≤ length (children_below t p y)) → (x < y) ⊎ (y ≤ x)
        → length (children_below t p x) + 1 ≤ length (children_below t p (suc y))
    at rest (inl less) = omega (arith, rest less, count_more t p y)
    at rest (inr le) =
        let same : x ≡ y = omega arith in
        let one = ap {B = ℕ} (λ b. if b then 1 else 0) c in
        let more = subst (λ z. length (children_below t p (suc z)) ≡ length (children_below t p x) +
        (if is_child t p x then 1 else 0)) same (count_more t p x) in
        omega (arith, one, more)

-- these numbers serve
pub place_numbers : (t : Tree) → Numbers t (place_number t)
unfolding place_number
place_numbers t = record {
  some = λ x e. absurd (omega (arith, e));
  apart = λ p x y ux uy e. apart p x y ux uy (same_rank p x y ux uy e) (cases_lt x y) (cases_lt y x);
}
  where
    rank : (x p : ℕ) → parent_of t x ≡ Some p → suc (rank_by t x (parent_of t x)) ≡ suc (length (children_below t p x))
    rank x p up = ap (λ o. suc (rank_by t x o)) up

    same_rank : (p x y : ℕ) → parent_of t x ≡ Some p → parent_of t y ≡ Some p → suc (rank_by t x (parent_of t x)) ≡ suc
        (rank_by t y (parent_of t y))
        → suc (length (children_below t p x)) ≡ suc (length (children_below t p y))
    same_rank p x y ux uy e = sym (rank x p ux) ∙ e ∙ rank y p uy

    apart : (p x y : ℕ) → parent_of t x ≡ Some p → parent_of t y ≡ Some p → suc (length (children_below t p x)) ≡ suc
        (length (children_below t p y))
        → (x < y) ⊎ (y ≤ x) → (y < x) ⊎ (x ≤ y) → x ≡ y
    apart p x y ux uy e (inl lt) g = absurd (omega (arith, e, count_after t p x y (child_of_parent t p x ux) lt))
    apart p x y ux uy e (inr le) (inl lt) = absurd (omega (arith, e, count_after t p y x (child_of_parent t p y uy) lt))
    apart p x y ux uy e (inr le) (inr ge) = omega arith
