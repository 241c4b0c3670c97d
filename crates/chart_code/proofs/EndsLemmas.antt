-- The states below a state are those that follow it before its end.
use Rattle.std.proofs.Common.{◌≡◌, ℕ, suc, ◌+◌, ◌≤◌, ◌<◌, Option, Some, None, true, false, refl, sym, ◌∙◌}
use Rattle.std.proofs.Common.{arith, ⊎_elim, ◌&&◌}
use Rattle.std.specs.Prelude.{nat_lt}
use Rattle.std.specs.Option.{option_map_or}
use Rattle.std.proofs.lemmas.Bool.{cases_lt}
use Rattle.std.proofs.lemmas.Bool.Decides.{nat_tests}
use Rattle.active_config.specs.Shape.{IsEnd}
use Rattle.active_config.specs.Tree.{Tree, IsTree, state_count, is_at_or_below}
use Rattle.active_config.proofs.ChildLemmas.{end_of as end_by_path}
use Rattle.active_config.proofs.PathLemmas.{Path, Here, Up, path_of, path_le, of_path, is_at_or_below-same}
use Rattle.active_config.proofs.PathLemmas.{is_at_or_below-other}
use Rattle.active_config.proofs.ParentLemmas.{child_within}
use Rattle.active_config.proofs.RangeLemmas.{is_last, none_below}
use Rattle.chart_code.specs.Kinds.{IsPath}
use Rattle.chart_code.specs.Ends.{last_at_or_below, end_of, below_count}

module _ (t : Tree) (tree : IsTree t) where
  -- the end of a state is that of the states below it
  pub end_is : (s : ℕ) → s < state_count t → IsEnd t s (end_of t s)
  unfolding end_of last_at_or_below
  end_is s lt = at (last_at_or_below t s) refl
    where
      at : (o : Option ℕ) → last_at_or_below t s ≡ o → IsEnd t s (option_map_or suc o (suc s))
      at None e = absurd (
          let none = none_below (λ x. is_at_or_below t x s) (state_count t) e s lt in
          let same = is_at_or_below-same t s s refl in
          cc)
      at (Some y) e =
          let last = is_last (λ x. is_at_or_below t x s) (state_count t) y e in
          let path = path_of t y s last.passes in
          end_by_path t tree.pre_order s y last.low (path_le t (state_count t) tree.pre_order y s last.low path) path
          (λ more up. absurd (let after = last.none_after (suc y) (omega arith) more in
          let here = of_path t (state_count t) tree.pre_order (suc y) s more up in cc))

  -- no other number is
  pub end_only : (s e : ℕ) → s < state_count t → IsEnd t s e → e ≡ end_of t s
  end_only s e lt end =
      omega (arith, not_before e (end_of t s) end (end_is s lt), not_before (end_of t s) e (end_is s lt) end)
    where
      not_before : (a b : ℕ) → IsEnd t s a → IsEnd t s b → b ≤ a
      not_before a b x y = ⊎_elim
          (λ less. absurd (
          let within : a < state_count t = omega (arith, y.within) in
          let after : s < a = x.after in
          let out : (nat_lt s a && nat_lt a a) ≡ false = grind (arith, nat_tests) in
          let into : (nat_lt s a && nat_lt a b) ≡ true = grind (arith, nat_tests) in
          let e = x.between a within in
          let f = y.between a within in
          cc))
          (λ le. le)
          (cases_lt a b)

  -- how many there are
  pub end_after : (s : ℕ) → s < state_count t → end_of t s ≡ suc s + below_count t s
  unfolding below_count
  end_after s lt = omega (arith, (end_is s lt).after)

  -- what is reached is a state
  within_path : (s d : ℕ) → s < state_count t → Path t s d → d < state_count t
  within_path s d lt (Here e) = omega arith
  within_path s d lt (Up p e up) = child_within t d p e

  -- a state at or below another one stands between that one and its end
  pub path_range : (s d : ℕ) → IsPath t s d → (s ≤ d) × (d < end_of t s)
  path_range s d path = (low, ⊎_elim below here (cases_lt s d))
    where
      to : Path t s d
      to = path_of t d s path.below

      within : d < state_count t
      within = within_path s d path.state to

      low : s ≤ d
      low = path_le t (state_count t) tree.pre_order d s within to

      here : d ≤ s → d < end_of t s
      here le = omega (arith, (end_is s path.state).after, low)

      below : s < d → d < end_of t s
      below lt =
          let under = sym (is_at_or_below-other t d s (λ e. omega arith)) ∙ path.below in
          let test : (nat_lt s d && nat_lt d (end_of t s)) ≡ true =
          sym ((end_is s path.state).between d within) ∙ under in
          grind (arith, nat_tests)
