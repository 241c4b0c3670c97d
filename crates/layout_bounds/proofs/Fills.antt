-- The children of a state, each with the states below it, fill the numbers after the state up to its end.
use Rattle.std.proofs.Common.{◌≡◌, ℕ, zero, suc, ◌+◌, ◌≤◌, ◌<◌, ◌&&◌, true, List, [], ◌∷◌, length, Some, None, refl}
use Rattle.std.proofs.Common.{sym, ap, ◌∙◌, subst, arith, inl, inr, ◌⊎◌}
use Rattle.std.specs.Prelude.{nat_lt}
use Rattle.std.proofs.lemmas.Bool.{cases_lt}
use Rattle.std.proofs.lemmas.Bool.Decides.{nat_tests}
use Rattle.active_config.specs.Shape.{IsEnd}
use Rattle.active_config.specs.Tree.{Tree, IsTree, state_count, parent_of, children_of, children_from, next_sibling}
use Rattle.active_config.specs.Tree.{ancestors}
use Rattle.active_config.proofs.ChildLemmas.{first_child-next, children_of-none, child_past_end, next_sibling-some}
use Rattle.active_config.proofs.ChildLemmas.{next_sibling-none}
use Rattle.active_config.proofs.ParentLemmas.{child_within}
use Rattle.active_config.proofs.PathLemmas.{Path, Here, Up, path_of, of_path, path_le, path_joins, parent_lt}
use Rattle.active_config.proofs.PathLemmas.{parent_before, is_at_or_below-other, ancestors-step}
use Rattle.active_config.proofs.SiblingLemmas.{children_of-from, children_from-next}
use Rattle.chart_code.specs.Ends.{end_of}
use Rattle.chart_code.proofs.EndsLemmas.{end_is, path_range}

-- states with k ancestors, each with the states below it, fill the numbers from a to before b, one after the other
abbrev pub Fills : Tree → ℕ → ℕ → List ℕ → ℕ → Type 0
Fills t k a [] b = a ≡ b
Fills t k a (x ∷ xs) b =
    (x ≡ a) × (x < state_count t) × (length (ancestors t x) ≡ k) × Fills t k (end_of t x) xs b

-- no child is left where there is no sibling
none_from : (t : Tree) (s : ℕ) → children_from t s None ≡ []
unfolding children_from
none_from t s = refl

module _ (t : Tree) (tree : IsTree t) where
  abbrev count : ℕ
  count = state_count t

  -- a state is before its end, which is no more than the count of states
  pub end_bounds : (s : ℕ) → s < count → (s < end_of t s) × (end_of t s ≤ count)
  end_bounds s lt = let is = end_is t tree s lt in (is.after, is.within)

  -- what stands between a state and its end is reached from it
  end_inside : (s x : ℕ) → s < count → s ≤ x → x < end_of t s → Path t s x
  end_inside s x lt low high = at (cases_lt s x)
    where
      at : (s < x) ⊎ (x ≤ s) → Path t s x
      at (inr le) = Here (omega arith)
      at (inl less) =
          let is = end_is t tree s lt in
          let within : x < count = omega (arith, is.within) in
          let test : (nat_lt s x && nat_lt x (end_of t s)) ≡ true = grind (arith, nat_tests) in
          path_of t x s (is_at_or_below-other t x s (λ e. omega arith) ∙ is.between x within ∙ test)

  -- what is reached from a state stands before its end
  path_before : (s x : ℕ) → s < count → x < count → Path t s x → x < end_of t s
  path_before s x lt within path =
      (path_range t tree s x (record { state = lt; below = of_path t count tree.pre_order x s within path })).1

  -- a child is a state after its parent and before the end of that one
  child_before : (s x : ℕ) → parent_of t x ≡ Some s → (s < x) × (x < count) × (x < end_of t s)
  child_before s x e =
      let within = child_within t x s e in
      let above = parent_lt t count tree.pre_order x s within e in
      (above, within, path_before s x (omega arith) within (Up s e (Here refl)))

  -- what is below a child is below the parent
  child_ends : (s x : ℕ) → parent_of t x ≡ Some s → end_of t x ≤ end_of t s
  child_ends s x e = at (cases_lt (end_of t s) (end_of t x))
    where
      at : (end_of t s < end_of t x) ⊎ (end_of t x ≤ end_of t s) → end_of t x ≤ end_of t s
      at (inr le) = le
      at (inl more) = absurd (
          let child = child_before s x e in
          let ends = end_bounds x child.1 in
          let inside = end_inside x (end_of t s) child.1 (omega (arith, child.2)) more in
          let path = path_joins t s x (end_of t s) inside (Up s e (Here refl)) in
          omega (arith, path_before s (end_of t s) (omega (arith, child.0, child.1)) (omega (arith, ends.1)) path))

  -- a child has one ancestor more than its parent
  child_depth : (s x : ℕ) → parent_of t x ≡ Some s → length (ancestors t x) ≡ suc (length (ancestors t s))
  child_depth s x e = ap length (ancestors-step t count tree.pre_order x s (child_within t x s e) e)

  -- the state after s is a child of it where it is before the end of s
  next_is_child : (s : ℕ) → s < count → suc s < end_of t s → parent_of t (suc s) ≡ Some s
  next_is_child s lt high = at (end_inside s (suc s) lt (omega arith) high)
    where
      within : suc s < count
      within = omega (arith, (end_bounds s lt).1)

      at : Path t s (suc s) → parent_of t (suc s) ≡ Some s
      at (Here e) = absurd (omega arith)
      at (Up p e path) =
          let low = parent_lt t count tree.pre_order (suc s) p within e in
          let high = path_le t count tree.pre_order p s (omega arith) path in
          let same : p ≡ s = omega arith in
          e ∙ ap Some same

  -- the states from a child of s on fill the numbers up to the end of s
  abbrev FillsFrom : ℕ → ℕ → Type 0
  FillsFrom s x = Fills t (suc (length (ancestors t s))) x (children_from t s (Some x)) (end_of t s)

  -- after a child stands its next sibling, or the end of the parent
  fill_next : (s x : ℕ) → parent_of t x ≡ Some s
      → ((y : ℕ) → parent_of t y ≡ Some s → x < y → FillsFrom s y)
      → Fills t (suc (length (ancestors t s))) (end_of t x) (children_from t s (next_sibling t x)) (end_of t s)
  fill_next s x e more = at (cases_lt (end_of t x) (end_of t s))
    where
      child : (s < x) × (x < count) × (x < end_of t s)
      child = child_before s x e

      parent : s < count
      parent = omega (arith, child.0, child.1)

      ends_at : IsEnd t x (end_of t x)
      ends_at = end_is t tree x child.1

      at : (end_of t x < end_of t s) ⊎ (end_of t s ≤ end_of t x)
          → Fills t (suc (length (ancestors t s))) (end_of t x) (children_from t s (next_sibling t x)) (end_of t s)
      at (inl less) =
          let within : end_of t x < count = omega (arith, (end_bounds s parent).1) in
          let path = end_inside s (end_of t x) parent (omega (arith, child.0, ends_at.after)) less in
          let up = child_past_end t tree.pre_order s x (end_of t x) ends_at e within path in
          subst (λ o. Fills t (suc (length (ancestors t s))) (end_of t x) (children_from t s o) (end_of t s))
          (sym (next_sibling-some t tree.pre_order s x (end_of t x) ends_at e within up))
          (more (end_of t x) up ends_at.after)
      at (inr le) =
          let none = next_sibling-none t tree.pre_order s x (end_of t x) ends_at e
          (λ lt up. absurd (omega (arith, (child_before s (end_of t x) up).2))) in
          let same : end_of t x ≡ end_of t s = omega (arith, child_ends s x e) in
          subst (λ l. Fills t (suc (length (ancestors t s))) (end_of t x) l (end_of t s))
          (sym (ap (children_from t s) none ∙ none_from t s)) same

  -- from a child on, by the numbers that are left
  fill_from : (m s x : ℕ) → parent_of t x ≡ Some s → end_of t s ≤ x + m → FillsFrom s x
  fill_from zero s x e h = absurd (omega (arith, (child_before s x e).2))
  fill_from (suc m) s x e h =
      let child = child_before s x e in
      let rest = fill_next s x e (λ y up lt. fill_from m s y up (omega arith)) in
      subst (λ l. Fills t (suc (length (ancestors t s))) x l (end_of t s)) (sym (children_from-next t s x e))
      (refl, child.1, child_depth s x e, rest)

  -- so the children of a state fill the numbers after it
  pub children_fill : (s : ℕ) → s < count
      → Fills t (suc (length (ancestors t s))) (suc s) (children_of t s) (end_of t s)
  children_fill s lt = at (cases_lt (suc s) (end_of t s))
    where
      at : (suc s < end_of t s) ⊎ (end_of t s ≤ suc s)
          → Fills t (suc (length (ancestors t s))) (suc s) (children_of t s) (end_of t s)
      at (inl more) =
          let within : suc s < count = omega (arith, (end_bounds s lt).1) in
          let up = next_is_child s lt more in
          let first = first_child-next t tree.pre_order s within up in
          subst (λ l. Fills t (suc (length (ancestors t s))) (suc s) l (end_of t s))
          (sym (children_of-from t s ∙ ap (children_from t s) first))
          (fill_from (end_of t s) s (suc s) up (omega arith))
      at (inr none) =
          let same : suc s ≡ end_of t s = omega (arith, (end_bounds s lt).0) in
          let empty = children_of-none t tree.pre_order s
          (λ within up. absurd (omega (arith, (child_before s (suc s) up).2))) in
          subst (λ l. Fills t (suc (length (ancestors t s))) (suc s) l (end_of t s)) (sym empty) same

  -- the states below the root are all others
  pub root_end : end_of t 0 ≡ count
  root_end = at (end_of t 0) refl (cases_lt (end_of t 0) count)
    where
      at : (e : ℕ) → end_of t 0 ≡ e → (e < count) ⊎ (count ≤ e) → e ≡ count
      at e is (inr le) = omega (arith, (end_bounds 0 tree.some).1)
      at zero is (inl lt) = absurd (omega (arith, (end_bounds 0 tree.some).0))
      at (suc y) is (inl lt) = absurd (
          let up = parent_before t count tree.pre_order y lt in
          let low = path_le t count tree.pre_order y up.0 (omega arith) up.2 in
          let path = end_inside 0 up.0 tree.some (omega arith) (omega arith) in
          omega (arith, path_before 0 (suc y) tree.some lt (Up up.0 up.1 path)))
