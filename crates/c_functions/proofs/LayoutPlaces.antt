-- The layout of a tree, in which nothing stands in one place.
use Rattle.std.proofs.Common.{◌≡◌, ℕ, zero, suc, ◌+◌, ◌/◌, ◌%◌, ◌^◌, ◌<◌, Bool, true, cond, List, [], ◌∷◌, take}
use Rattle.std.proofs.Common.{get_or, ap, arith, ⊎_elim, mod-lt, div-add-mod'}
use Rattle.std.proofs.lemmas.Bool.{cases_lt}
use Rattle.std.proofs.lemmas.List.Sums.{sum_by-cons}
use Rattle.std.specs.List.{count_by}
use Rattle.active_config.specs.declared.comp.Comp.{Comp}
use Rattle.active_config.specs.declared.comp.Comp.TheVariants.{Leaf}
use Rattle.active_config.specs.Tree.{Tree, state_count, comp_of, is_or}
use Rattle.c_functions.specs.Layout.{IsLayout, or_count, or_rank, layout_after}

-- ---- how many ORs there are

-- in a list, after one more state
count-cons : (x : Comp) (xs : List Comp) → count_by is_or (x ∷ xs) ≡ cond (is_or x) 1 0 + count_by is_or xs
count-cons x xs = sum_by-cons (λ (y : Comp). cond (is_or y) 1 0) x xs

-- before a state that stands after an OR there is one more than before that OR
count-past : (xs : List Comp) (p q : ℕ) → is_or (get_or xs p Leaf) ≡ true → p < q
    → count_by is_or (take p xs) < count_by is_or (take q xs)
count-past [] zero q or lt = absurd cc
count-past [] (suc p) q or lt = absurd cc
count-past (x ∷ xs) p zero or lt = absurd (omega (arith, lt))
count-past (x ∷ xs) zero (suc q) or lt =
    let one : ◌≡◌ {A = ℕ} (cond (is_or x) 1 0) 1 = ap (λ (b : Bool). cond b 1 0) or in
    let more = count-cons x (take q xs) in
    omega (arith, one, more)
count-past (x ∷ xs) (suc p) (suc q) or lt =
    let a = count-cons x (take p xs) in
    let b = count-cons x (take q xs) in
    let rest = count-past xs p q or (omega (arith, lt)) in
    omega (arith, a, b, rest)

-- before an OR there is one fewer than there are, at least
count-below : (xs : List Comp) (p : ℕ) → is_or (get_or xs p Leaf) ≡ true
    → count_by is_or (take p xs) < count_by is_or xs
count-below [] zero or = absurd cc
count-below [] (suc p) or = absurd cc
count-below (x ∷ xs) zero or =
    let one : ◌≡◌ {A = ℕ} (cond (is_or x) 1 0) 1 = ap (λ (b : Bool). cond b 1 0) or in
    let more = count-cons x xs in
    omega (arith, one, more)
count-below (x ∷ xs) (suc p) or =
    let a = count-cons x (take p xs) in
    let b = count-cons x xs in
    let rest = count-below xs p or in
    omega (arith, a, b, rest)

rank-past : (t : Tree) (p q : ℕ) → is_or (comp_of t p) ≡ true → p < q → or_rank t p < or_rank t q
unfolding or_rank comp_of
rank-past t p q or lt = count-past t.comps p q or lt

pub rank-below : (t : Tree) (p : ℕ) → is_or (comp_of t p) ≡ true → or_rank t p < or_count t
unfolding or_rank or_count comp_of
rank-below t p or = count-below t.comps p or

-- two ORs have different ranks
rank-apart : (t : Tree) (p q : ℕ) → is_or (comp_of t p) ≡ true → is_or (comp_of t q) ≡ true
    → or_rank t p ≡ or_rank t q → p ≡ q
rank-apart t p q op oq e =
    ⊎_elim (λ lt. absurd (let h = rank-past t p q op lt in omega (arith, h, e)))
    (λ le. ⊎_elim (λ lt. absurd (let h = rank-past t q p oq lt in omega (arith, h, e)))
    (λ ge. omega (arith, le, ge)) (cases_lt q p)) (cases_lt p q)

-- ---- the layout

-- two numbers with the same quotient and the same remainder
same-parts : (x y : ℕ) → x / 32 ≡ y / 32 → x % 32 ≡ y % 32 → x ≡ y
same-parts x y q r = let a = div-add-mod' x 32 in let b = div-add-mod' y 32 in omega (arith, a, b, q, r)

pub is-layout : (t : Tree) (n : ℕ → ℕ) (fields : ℕ) → ((x : ℕ) → x < state_count t → n x < 2 ^ 16)
    → IsLayout t n (layout_after t fields)
is-layout t n fields small = record {
  numbers = small;
  bits_are = λ x. mod-lt x (omega arith);
  chosen_apart = λ p q op oq e. rank-apart t p q op oq (omega (arith, e));
  kept_apart = λ p q op oq e. rank-apart t p q op oq (omega (arith, e));
  kept_chosen = λ p q op oq e. absurd (let h = rank-below t q oq in omega (arith, e, h));
  word_chosen = λ x p hx op e. absurd (let h = rank-below t p op in omega (arith, e, h));
  word_kept = λ x p hx op e. absurd (let h = rank-below t p op in omega (arith, e, h));
  bits_apart = λ x y hx hy e r. same-parts x y (omega (arith, e)) r;
}
