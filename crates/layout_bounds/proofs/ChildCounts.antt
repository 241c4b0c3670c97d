-- How many children the states of a tree have, and how many states are below them.
use Rattle.std.proofs.Common.{◌≡◌, ℕ, zero, suc, ◌+◌, ◌*◌, ◌≤◌, List, [], ◌∷◌, length, ap, arith, mul_comm, mul-one}
use Rattle.active_config.specs.Tree.{Tree, IsTree, state_count, children_of, ancestors}
use Rattle.chart_code.specs.Ends.{end_of, below_count}
use Rattle.chart_code.specs.Orders.{sum_to}
use Rattle.chart_code.proofs.Sums.{sum_next, sum_to_plus, sum_to_constant}
use Rattle.layout_bounds.specs.TreeSums.{sum_below, HasDepth}
use Rattle.layout_bounds.proofs.SumLemmas.{sum_to_most, sum_to_equal}
use Rattle.layout_bounds.proofs.Fills.{Fills, end_bounds, children_fill}
use Rattle.layout_bounds.proofs.SumsBelow.{sum_below_constant, fills_order}
use Rattle.layout_bounds.proofs.SumsByDepth.{root_fills, sum_of_sums}

module _ (t : Tree) (tree : IsTree t) where
  -- how many children
  abbrev children : ℕ → ℕ
  children s = length (children_of t s)

  -- how many ancestors
  abbrev depth : ℕ → ℕ
  depth s = length (ancestors t s)

  -- states that fill numbers are, with the children of the states there, as many as these numbers
  fills_children : (m k : ℕ) (xs : List ℕ) (a b : ℕ) → b ≤ a + m → Fills t k a xs b
      → sum_to children b + length xs + a ≡ sum_to children a + b
  fills_children m k [] a b le h = omega (arith, ap (sum_to children) h)
  fills_children zero k (x ∷ xs) a b le h =
      absurd (omega (arith, h.0, (end_bounds t tree x h.1).0, fills_order t tree k xs (end_of t x) b h.3))
  fills_children (suc m) k (x ∷ xs) a b le h =
      let after = (end_bounds t tree x h.1).0 in
      let order = fills_order t tree k xs (end_of t x) b h.3 in
      let inner = children_fill t tree x h.1 in
      let low = fills_children m _ (children_of t x) (suc x) (end_of t x) (omega (arith, h.0)) inner in
      let rest = fills_children m k xs (end_of t x) b (omega (arith, h.0)) h.3 in
      omega (arith, low, rest, sum_next children x, h.0, ap (sum_to children) h.0)

  -- each state but the root is a child once
  pub children_count : sum_to children (state_count t) + 1 ≡ state_count t
  unfolding sum_to
  children_count =
      omega (arith, fills_children (state_count t) 0 (0 ∷ []) 0 (state_count t) (omega arith) (root_fills t tree))

  -- a state is below each of its ancestors
  pub below_counts : sum_to (below_count t) (state_count t) ≡ sum_to depth (state_count t)
  below_counts =
      let n = state_count t in
      let here : sum_to (λ s. below_count t s + 1) n ≡ sum_to (sum_below t (λ x. 1)) n =
      sum_to_equal (λ s. below_count t s + 1) (sum_below t (λ x. 1)) n
      (λ s lt. omega (arith, sum_below_constant t tree 1 s lt, mul-one (suc (below_count t s)))) in
      let levels : sum_to (λ s. suc (depth s) * 1) n ≡ sum_to (λ s. depth s + 1) n =
      sum_to_equal (λ s. suc (depth s) * 1) (λ s. depth s + 1) n (λ s lt. omega (arith, mul-one (suc (depth s)))) in
      omega (
        arith,
        here,
        levels,
        sum_of_sums t tree (λ x. 1),
        sum_to_plus (below_count t) (λ s. 1) n,
        sum_to_plus depth (λ s. 1) n,
      )

  -- so there are at most as many pairs of a state and one below it as levels below the root for each state
  pub below_counts_most : (d : ℕ) → HasDepth t d → sum_to (below_count t) (state_count t) ≤ d * state_count t
  below_counts_most d deep =
      omega (
        arith,
        below_counts,
        sum_to_most depth (λ s. d) (state_count t) deep,
        sum_to_constant d (state_count t),
        mul_comm d (state_count t),
      )
