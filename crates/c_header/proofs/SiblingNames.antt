-- Children of one state have one name only where they are one.
use Rattle.std.proofs.Common.{◌≡◌, ℕ, zero, suc, ◌+◌, ◌≤◌, ◌<◌, Bool, true, false, cond, not, ◌&&◌, List, ◌∷◌, map}
use Rattle.std.proofs.Common.{Option, Some, None, is_some, refl, sym, ap, ◌∙◌, arith, ⊎_elim}
use Rattle.std.specs.List.{filter, range_with_len}
use Rattle.std.specs.Str.{bytes_eq}
use Rattle.std.proofs.lemmas.Bool.{cases_lt}
use Rattle.std.proofs.lemmas.Slice.Eq.{bytes_eq-Decides}
use Rattle.flow_base.specs.Names.{after, index_of, are_distinct}
use Rattle.active_config.specs.Tree.{Tree, state_count, parent_of, is_child, children_below, children_of}
use Rattle.active_config.proofs.ChildLemmas.{child_of_parent}
use Rattle.active_config.proofs.ParentLemmas.{child_within}
use Rattle.actions.specs.Names.{Names}
use Rattle.checked_chart.specs.Valid.{HasNames}
use Rattle.c_header.specs.Paths.{state_name}

-- ---- names in a list

some_after : (o : Option ℕ) → is_some o ≡ true → is_some (after o) ≡ true
some_after None h = absurd cc
some_after (Some n) h = refl

-- a name is found where it is the first one, or one after it
found_first : (first name : List ℕ) (rest : List (List ℕ)) → first ≡ name
    → is_some (index_of name (first ∷ rest)) ≡ true
found_first first name rest same =
    ap (λ (b : Bool). is_some (cond b (Some 0) (after (index_of name rest)))) ((bytes_eq-Decides first name).1 same)

found_later : (first name : List ℕ) (rest : List (List ℕ)) → is_some (index_of name rest) ≡ true
    → is_some (index_of name (first ∷ rest)) ≡ true
found_later first name rest there = at (bytes_eq first name)
  where
    at : (b : Bool) → is_some (cond b (Some 0) (after (index_of name rest))) ≡ true
    at true = refl
    at false = some_after (index_of name rest) there

not_found : (b c : Bool) → (not b && c) ≡ true → b ≡ true → ⊥
not_found true c h e = absurd cc
not_found false c h e = absurd cc

pub rest_distinct : (b c : Bool) → (not b && c) ≡ true → c ≡ true
rest_distinct true c h = absurd cc
rest_distinct false c h = h

-- ---- names of the numbers that pass a test

module _ (name : ℕ → List ℕ) (q : ℕ → Bool) where
  -- their names, from a number on
  abbrev names : ℕ → ℕ → List (List ℕ)
  names a n = map name (filter q (range_with_len a n))

  -- the name of a number that passes is found
  found : (a n x : ℕ) (who : List ℕ) → a ≤ x → x < a + n → q x ≡ true → name x ≡ who
      → is_some (index_of who (names a n)) ≡ true
  found a zero x who low high passes is = absurd (omega (arith, low, high))
  found a (suc n) x who low high passes is = ⊎_elim
      (λ later. skip (q a) (found (a + 1) n x who (omega arith) (omega (arith, high)) passes is))
      (λ here. let same : x ≡ a = omega (arith, low, here) in
      take (q a) (ap q (sym same) ∙ passes) (ap name (sym same) ∙ is))
      (cases_lt a x)
    where
      skip : (b : Bool) → is_some (index_of who (names (a + 1) n)) ≡ true
          → is_some (index_of who (map name (cond b (a ∷ filter q (range_with_len (a + 1) n))
          (filter q (range_with_len (a + 1) n))))) ≡ true
      skip true there = found_later (name a) who (names (a + 1) n) there
      skip false there = there

      take : (b : Bool) → b ≡ true → name a ≡ who
          → is_some (index_of who (map name (cond b (a ∷ filter q (range_with_len (a + 1) n))
          (filter q (range_with_len (a + 1) n))))) ≡ true
      take true holds same = found_first (name a) who (names (a + 1) n) same
      take false holds same = absurd cc

  -- a number and a later one have different names
  apart : (a n x y : ℕ) → are_distinct (names a n) ≡ true → a ≤ x → x < y → y < a + n → q x ≡ true → q y ≡ true
      → name x ≡ name y → ⊥
  apart a zero x y distinct low less high px py same = omega (arith, low, less, high)
  apart a (suc n) x y distinct low less high px py same = ⊎_elim
      (λ later. apart (a + 1) n x y (rest (q a) distinct) (omega arith) less (omega (arith, high)) px py same)
      (λ here. let is : x ≡ a = omega (arith, low, here) in
      first (q a) distinct (ap q (sym is) ∙ px)
      (found (a + 1) n y (name a) (omega (arith, less, is)) (omega (arith, high)) py (sym same ∙ ap name is)))
      (cases_lt a x)
    where
      rest : (b : Bool) → are_distinct (map name (cond b (a ∷ filter q (range_with_len (a + 1) n))
          (filter q (range_with_len (a + 1) n)))) ≡ true → are_distinct (names (a + 1) n) ≡ true
      rest true d = rest_distinct (is_some (index_of (name a) (names (a + 1) n))) (are_distinct (names (a + 1) n)) d
      rest false d = d

      first : (b : Bool) → are_distinct (map name (cond b (a ∷ filter q (range_with_len (a + 1) n))
          (filter q (range_with_len (a + 1) n)))) ≡ true → b ≡ true
          → is_some (index_of (name a) (names (a + 1) n)) ≡ true → ⊥
      first true d holds there =
          not_found (is_some (index_of (name a) (names (a + 1) n))) (are_distinct (names (a + 1) n)) d there
      first false d holds there = absurd cc

-- ---- children

-- children of one state that have one name are one
pub same_child : (t : Tree) (n : Names) → HasNames t n → (p x y : ℕ) → p < state_count t
    → parent_of t x ≡ Some p → parent_of t y ≡ Some p → state_name n x ≡ state_name n y → x ≡ y
unfolding children_of children_below
same_child t n names p x y within is_x is_y same =
    let name : ℕ → List ℕ = state_name n in
    let lx : x < state_count t = child_within t x p is_x in
    let ly : y < state_count t = child_within t y p is_y in
    let qx = child_of_parent t p x is_x in
    let qy = child_of_parent t p y is_y in
    ⊎_elim
    (λ less. absurd (apart name (is_child t p) 0 (state_count t) x y (names.siblings p within) (omega arith) less
    (omega (arith, ly)) qx qy same))
    (λ more. ⊎_elim
    (λ less. absurd (apart name (is_child t p) 0 (state_count t) y x (names.siblings p within) (omega arith) less
    (omega (arith, lx)) qy qx (sym same)))
    (λ less. omega (arith, more, less))
    (cases_lt y x))
    (cases_lt x y)
