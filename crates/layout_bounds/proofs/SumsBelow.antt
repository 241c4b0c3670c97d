-- The sum over the states at or below a state.
use Rattle.std.proofs.Common.{◌≡◌, ℕ, suc, ◌+◌, ◌-◌, ◌*◌, ◌<◌, ◌≤◌, List, [], ◌∷◌, sum_by, ap, ◌∙◌, arith}
use Rattle.std.proofs.lemmas.List.Sums.{sum_by-cons}
use Rattle.active_config.specs.Tree.{Tree, IsTree, state_count, children_of}
use Rattle.chart_code.specs.Ends.{end_of, below_count}
use Rattle.chart_code.specs.Orders.{sum_to}
use Rattle.chart_code.proofs.EndsLemmas.{end_after}
use Rattle.chart_code.proofs.Sums.{sum_next, sum_to_le, sum_between_is}
use Rattle.layout_bounds.specs.TreeSums.{sum_below}
use Rattle.layout_bounds.proofs.SumLemmas.{sum_between_constant}
use Rattle.layout_bounds.proofs.Fills.{Fills, end_bounds, children_fill, root_end}

module _ (t : Tree) (tree : IsTree t) where
  -- with the sum over the states before s it is the sum to the end of s
  pub sum_below_is : (f : ℕ → ℕ) (s : ℕ) → s < state_count t → sum_below t f s + sum_to f s ≡ sum_to f (end_of t s)
  unfolding sum_below
  sum_below_is f s lt = sum_between_is f s (end_of t s) (omega (arith, (end_bounds t tree s lt).0))

  -- states that fill numbers end after they begin
  pub fills_order : (k : ℕ) (xs : List ℕ) (a b : ℕ) → Fills t k a xs b → a ≤ b
  fills_order k [] a b h = omega arith
  fills_order k (x ∷ xs) a b h =
      omega (arith, h.0, (end_bounds t tree x h.1).0, fills_order k xs (end_of t x) b h.3)

  -- the sums at states that fill numbers are the sum over these
  fills_sum : (f : ℕ → ℕ) (k : ℕ) (xs : List ℕ) (a b : ℕ) → Fills t k a xs b
      → sum_by (sum_below t f) xs + sum_to f a ≡ sum_to f b
  fills_sum f k [] a b h = omega (arith, ap (sum_to f) h)
  fills_sum f k (x ∷ xs) a b h =
      omega (
        arith,
        sum_by-cons (sum_below t f) x xs,
        ap (sum_to f) h.0,
        sum_below_is f x h.1,
        fills_sum f k xs (end_of t x) b h.3,
      )

  -- the sum at a state is its own share and the sums at its children
  pub sum_below_splits : (f : ℕ → ℕ) (s : ℕ) → s < state_count t
      → sum_below t f s ≡ f s + sum_by (sum_below t f) (children_of t s)
  sum_below_splits f s lt =
      omega (
        arith,
        sum_below_is f s lt,
        sum_next f s,
        fills_sum f _ (children_of t s) (suc s) (end_of t s) (children_fill t tree s lt),
      )

  -- the sum at the root is that over all states
  pub sum_below_root : (f : ℕ → ℕ) → sum_below t f 0 ≡ sum_to f (state_count t)
  unfolding sum_to
  sum_below_root f = omega (arith, sum_below_is f 0 tree.some, ap (sum_to f) (root_end t tree))

  -- the sum at a state is at most that over all states
  pub sum_below_whole : (f : ℕ → ℕ) (s : ℕ) → s < state_count t → sum_below t f s ≤ sum_to f (state_count t)
  sum_below_whole f s lt =
      omega (arith, sum_below_is f s lt, sum_to_le f (end_of t s) (state_count t) (end_bounds t tree s lt).1)

  -- a sum of one number counts the states at or below s
  pub sum_below_constant : (k s : ℕ) → s < state_count t → sum_below t (λ x. k) s ≡ suc (below_count t s) * k
  unfolding sum_below
  sum_below_constant k s lt =
      let left : end_of t s - s ≡ suc (below_count t s) = omega (arith, end_after t tree s lt) in
      sum_between_constant k s (end_of t s) ∙ ap (λ n. n * k) left
