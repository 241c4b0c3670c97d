-- How often a number stands in lists.
use Rattle.std.proofs.Common.{◌≡◌, ◌≢◌, ℕ, zero, suc, ◌+◌, ◌<◌, ◌≤◌, Bool, true, false, cond, List, [], ◌∷◌, ◌++◌}
use Rattle.std.proofs.Common.{map, refl, sym, ap, ◌∙◌, subst, arith, flat_map}
use Rattle.std.specs.Prelude.{◌==◌, slice_index_or, if◌then◌else◌}
use Rattle.std.specs.List.{filter, range_with_len}
use Rattle.chart_structure.proofs.WalkLemmas.{same_of}
use Rattle.chart_structure.proofs.LeastLemmas.{eq_same}
use Rattle.counting_log.specs.Times.{is_in, times_in}
use Rattle.counting_trees.proofs.Lists.{Has}

-- one more where a number is the one
abbrev one_if : Bool → ℕ → ℕ
one_if b n = if b then 1 + n else n

one_less : (b : Bool) (n : ℕ) → n ≤ one_if b n
one_less true n = omega arith
one_less false n = omega arith

one_most : (b : Bool) (n m : ℕ) → n ≤ m → one_if b n ≤ one_if b m
one_most true n m le = omega arith
one_most false n m le = omega arith

-- ---- whether it stands there

module _ (v : ℕ) where
  pub none_is : (l : List ℕ) → times_in v l ≡ 0 → is_in v l ≡ false
  none_is [] e = refl
  none_is (u ∷ us) e = at (u == v) e (none_is us)
    where
      at : (b : Bool) → one_if b (times_in v us) ≡ 0 → (times_in v us ≡ 0 → is_in v us ≡ false)
          → (if b then true else is_in v us) ≡ false
      at true e rest = absurd (omega (arith, e))
      at false e rest = rest e

  pub some_is : (l : List ℕ) → 1 ≤ times_in v l → is_in v l ≡ true
  some_is [] le = absurd (omega (arith, le))
  some_is (u ∷ us) le = at (u == v) le (some_is us)
    where
      at : (b : Bool) → 1 ≤ one_if b (times_in v us) → (1 ≤ times_in v us → is_in v us ≡ true)
          → (if b then true else is_in v us) ≡ true
      at true le rest = refl
      at false le rest = rest le

  -- ---- in a range

  before_range : (a n : ℕ) → v < a → times_in v (range_with_len a n) ≡ 0
  before_range a zero lt = refl
  before_range a (suc n) lt = at (a == v) refl (before_range (a + 1) n (omega arith))
    where
      at : (b : Bool) → (a == v) ≡ b → times_in v (range_with_len (a + 1) n) ≡ 0
          → one_if b (times_in v (range_with_len (a + 1) n)) ≡ 0
      at true e rest = absurd (let same = same_of a v e in omega (arith, same, lt))
      at false e rest = rest

  pub once_in_range : (a n : ℕ) → times_in v (range_with_len a n) ≤ 1
  once_in_range a zero = omega arith
  once_in_range a (suc n) = at (a == v) refl (once_in_range (a + 1) n)
    where
      at : (b : Bool) → (a == v) ≡ b → times_in v (range_with_len (a + 1) n) ≤ 1
          → one_if b (times_in v (range_with_len (a + 1) n)) ≤ 1
      at true e rest =
          let same = same_of a v e in
          let none = before_range (a + 1) n (omega (arith, same)) in
          omega (arith, none)
      at false e rest = rest

module _ {A : Type 0} (f : A → ℕ) (v : ℕ) where
  pub times_there : (xs : List A) (x : A) → Has xs x → f x ≡ v → 1 ≤ times_in v (map f xs)
  times_there [] x (i, e) same = absurd cc
  times_there (y ∷ xs) x (zero, e) same =
      let is : f y ≡ v = (let z : y ≡ x = cc in ap f z ∙ same) in
      let yes : (f y == v) ≡ true = ap (λ u. u == v) is ∙ eq_same v in
      subst (λ b. 1 ≤ one_if b (times_in v (map f xs))) (sym yes) (omega arith)
  times_there (y ∷ xs) x (suc i, e) same =
      let rest = times_there xs x (i, e) same in
      let le = one_less (f y == v) (times_in v (map f xs)) in
      omega (arith, rest, le)

  pub times-append : (xs ys : List A) → times_in v (map f (xs ++ ys)) ≡ times_in v (map f xs) + times_in v (map f ys)
  times-append [] ys = omega arith
  times-append (x ∷ xs) ys = at (f x == v) (times-append xs ys)
    where
      at : (b : Bool) → times_in v (map f (xs ++ ys)) ≡ times_in v (map f xs) + times_in v (map f ys)
          → one_if b (times_in v (map f (xs ++ ys))) ≡ one_if b (times_in v (map f xs)) + times_in v (map f ys)
      at true e = omega (arith, e)
      at false e = e

  -- ---- in lists of lists

  each_less : (ls : List (List A)) (s : ℕ)
      → times_in v (map f (slice_index_or ls s [])) ≤ times_in v (map f (flat_map (λ l. l) ls))
  each_less [] s = omega arith
  each_less (l ∷ ls) zero = let e = times-append l (flat_map (λ l. l) ls) in omega (arith, e)
  each_less (l ∷ ls) (suc s) =
      let e = times-append l (flat_map (λ l. l) ls) in
      let rest = each_less ls s in
      omega (arith, e, rest)

  -- a number that stands once in all of them stands in one of them
  pub none_else : (ls : List (List A)) (s y : ℕ) → times_in v (map f (flat_map (λ l. l) ls)) ≤ 1
      → 1 ≤ times_in v (map f (slice_index_or ls s [])) → y ≢ s → times_in v (map f (slice_index_or ls y [])) ≡ 0
  none_else [] s y once there other = refl
  none_else (l ∷ ls) zero zero once there other = absurd (other refl)
  none_else (l ∷ ls) zero (suc y) once there other =
      let e = times-append l (flat_map (λ l. l) ls) in
      let le = each_less ls y in
      omega (arith, e, le, once, there)
  none_else (l ∷ ls) (suc s) zero once there other =
      let e = times-append l (flat_map (λ l. l) ls) in
      let le = each_less ls s in
      omega (arith, e, le, once, there)
  none_else (l ∷ ls) (suc s) (suc y) once there other =
      let e = times-append l (flat_map (λ l. l) ls) in
      none_else ls s y (omega (arith, e, once)) there (λ same. other (ap suc same))

  -- ---- among those that pass a test

  pub filter_less : (q : A → Bool) (xs : List A) → times_in v (map f (filter q xs)) ≤ times_in v (map f xs)
  filter_less q [] = omega arith
  filter_less q (x ∷ xs) = at (q x) (filter_less q xs)
    where
      at : (b : Bool) → times_in v (map f (filter q xs)) ≤ times_in v (map f xs)
          → times_in v (map f (cond b (x ∷ filter q xs) (filter q xs))) ≤ one_if (f x == v) (times_in v (map f xs))
      at true le = one_most (f x == v) _ _ le
      at false le = let more = one_less (f x == v) (times_in v (map f xs)) in omega (arith, le, more)

  -- what stands there once is among them where it passes
  pub once_among : (q : A → Bool) (xs : List A) (x : A) → Has xs x → f x ≡ v → times_in v (map f xs) ≤ 1
      → times_in v (map f (filter q xs)) ≡ (if q x then 1 else 0)
  once_among q [] x (i, e) same once = absurd cc
  once_among q (y ∷ xs) x (zero, e) same once =
      subst (λ z. times_in v (map f (cond (q y) (y ∷ filter q xs) (filter q xs))) ≡ (if q z then 1 else 0)) is
      (at (q y))
    where
      is : y ≡ x
      is = cc

      yes : (f y == v) ≡ true
      yes = ap (λ u. u == v) (ap f is ∙ same) ∙ eq_same v

      none : times_in v (map f (filter q xs)) ≡ 0
      none =
          let one : one_if true (times_in v (map f xs)) ≤ 1 =
          subst (λ b. one_if b (times_in v (map f xs)) ≤ 1) yes once in
          let le = filter_less q xs in
          omega (arith, one, le)

      at : (b : Bool) → times_in v (map f (cond b (y ∷ filter q xs) (filter q xs))) ≡ (if b then 1 else 0)
      at true =
          ap (λ b. one_if b (times_in v (map f (filter q xs)))) yes ∙ ap (λ n. 1 + n) none
      at false = none
  once_among q (y ∷ xs) x (suc i, e) same once =
      at (q y) (f y == v) refl once (once_among q xs x (i, e) same (omega (arith, once, one_less (f y == v) (times_in v (map f xs)))))
    where
      there : 1 ≤ times_in v (map f xs)
      there = times_there xs x (i, e) same

      at : (b a : Bool) → (f y == v) ≡ a → one_if a (times_in v (map f xs)) ≤ 1
          → times_in v (map f (filter q xs)) ≡ (if q x then 1 else 0)
          → times_in v (map f (cond b (y ∷ filter q xs) (filter q xs))) ≡ (if q x then 1 else 0)
      at b true t le rest = absurd (omega (arith, le, there))
      at true false t le rest = ap (λ a. one_if a (times_in v (map f (filter q xs)))) t ∙ rest
      at false false t le rest = rest
