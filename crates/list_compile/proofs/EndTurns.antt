-- How the end of a state is found.
use Rattle.std.proofs.Common.{◌≡◌, ℕ, ◌<◌, ◌≤◌, true, false, arith}
use Rattle.std.proofs.lemmas.Bool.Decides.{nat_tests}
use Rattle.active_config.specs.Tree.{Tree, IsTree, state_count, is_below}
use Rattle.chart_code.specs.Ends.{end_of}
use Rattle.chart_code.proofs.EndsLemmas.{end_is}

module _ (t : Tree) (tree : IsTree t) (s x : ℕ) (low : s < state_count t) (there : x < state_count t) (after : s < x) where
  -- a state below another one stands before its end
  pub below_before : is_below t x s ≡ true → x < end_of t s
  below_before h = let e = (end_is t tree s low).between x there in grind (arith, nat_tests)

  -- a later state that isn't below it doesn't
  pub other_after : is_below t x s ≡ false → end_of t s ≤ x
  other_after h = let e = (end_is t tree s low).between x there in grind (arith, nat_tests)
