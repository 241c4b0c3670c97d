-- In the sum over all states of the sums below them each state counts once for itself and once for each ancestor.
use Rattle.std.proofs.Common.{◌≡◌, ℕ, zero, suc, ◌+◌, ◌*◌, ◌<◌, ◌≤◌, List, [], ◌∷◌, length, refl, ap, subst, arith}
use Rattle.std.proofs.Common.{suc-mul, mul-add}
use Rattle.std.proofs.lemmas.Nat.{mul-le}
use Rattle.active_config.specs.Tree.{Tree, IsTree, state_count, children_of, ancestors}
use Rattle.active_config.proofs.PathLemmas.{ancestors-root}
use Rattle.chart_code.specs.Ends.{end_of}
use Rattle.chart_code.specs.Orders.{sum_to}
use Rattle.chart_code.proofs.Sums.{sum_to_times}
use Rattle.layout_bounds.specs.TreeSums.{sum_below, HasDepth}
use Rattle.layout_bounds.proofs.SumLemmas.{sum_to_most}
use Rattle.layout_bounds.proofs.Fills.{Fills, end_bounds, children_fill, root_end}
use Rattle.layout_bounds.proofs.SumsBelow.{sum_below_is, fills_order}

-- A level over plain numbers, for a state with k ancestors, whose share is f and the sum at it b. Before the state, and
-- before its end, the sums of shares are s and s', those of sums a and a', and those of shares once a level w and w'.
one_level : (k f b s s' a a' w w' : ℕ) → b + s ≡ s'
    → a' + suc k * s' + (w + suc k * f) ≡ a + b + suc k * (s + f) + w' → a' + k * s' + w ≡ a + k * s + w'
one_level k f b s s' a a' w w' below low =
    omega (arith, below, low, suc-mul k s', suc-mul k s, mul-add (suc k) s f)

module _ (t : Tree) (tree : IsTree t) where
  -- the root alone fills all numbers
  pub root_fills : Fills t 0 0 (0 ∷ []) (state_count t)
  root_fills = (refl, tree.some, ap length (ancestors-root t 0 tree.pre_order.root), root_end t tree)

  -- the children of a state with k ancestors have one more
  pub children_fill_at : (k s : ℕ) → s < state_count t → length (ancestors t s) ≡ k
      → Fills t (suc k) (suc s) (children_of t s) (end_of t s)
  children_fill_at k s lt e =
      subst (λ n. Fills t (suc n) (suc s) (children_of t s) (end_of t s)) e (children_fill t tree s lt)

module _ (t : Tree) (tree : IsTree t) (f : ℕ → ℕ) where
  -- the share of a state, once for it and once for each ancestor
  abbrev weight : ℕ → ℕ
  weight s = suc (length (ancestors t s)) * f s

  -- over states that fill numbers, with k ancestors that aren't among these, by the numbers that are left
  fills_depths : (m k : ℕ) (xs : List ℕ) (a b : ℕ) → b ≤ a + m → Fills t k a xs b
      → sum_to (sum_below t f) b + k * sum_to f b + sum_to weight a
      ≡ sum_to (sum_below t f) a + k * sum_to f a + sum_to weight b
  unfolding sum_to
  fills_depths m k [] a b le h =
      omega (arith, ap (sum_to (sum_below t f)) h, ap (λ n. k * sum_to f n) h, ap (sum_to weight) h)
  fills_depths zero k (x ∷ xs) a b le h =
      absurd (omega (arith, h.0, (end_bounds t tree x h.1).0, fills_order t tree k xs (end_of t x) b h.3))
  fills_depths (suc m) k (x ∷ xs) a b le h =
      let after = (end_bounds t tree x h.1).0 in
      let order = fills_order t tree k xs (end_of t x) b h.3 in
      let inner = children_fill_at t tree k x h.1 h.2 in
      let low = fills_depths m (suc k) (children_of t x) (suc x) (end_of t x) (omega (arith, h.0)) inner in
      let share = ap (λ n. suc n * f x) h.2 in
      let here = one_level k (f x) (sum_below t f x) (sum_to f x) (sum_to f (end_of t x)) (sum_to (sum_below t f) x)
      (sum_to (sum_below t f) (end_of t x)) (sum_to weight x) (sum_to weight (end_of t x))
      (sum_below_is t tree f x h.1) (omega (arith, low, share)) in
      omega (
        arith,
        here,
        fills_depths m k xs (end_of t x) b (omega (arith, h.0)) h.3,
        ap (sum_to (sum_below t f)) h.0,
        ap (λ n. k * sum_to f n) h.0,
        ap (sum_to weight) h.0,
      )

  -- over all states
  pub sum_of_sums : sum_to (sum_below t f) (state_count t) ≡ sum_to weight (state_count t)
  unfolding sum_to
  sum_of_sums =
      omega (arith, fills_depths (state_count t) 0 (0 ∷ []) 0 (state_count t) (omega arith) (root_fills t tree))

  -- so a share counts at most as often as the tree has levels
  pub sum_of_sums_most : (d : ℕ) → HasDepth t d
      → sum_to (sum_below t f) (state_count t) ≤ suc d * sum_to f (state_count t)
  sum_of_sums_most d deep =
      omega (
        arith,
        sum_of_sums,
        sum_to_times (suc d) f (state_count t),
        sum_to_most weight (λ s. suc d * f s) (state_count t) (λ s lt. share_most s (omega (arith, deep s lt))),
      )
    where
      share_most : (s : ℕ) → suc (length (ancestors t s)) ≤ suc d → weight s ≤ suc d * f s
      share_most s le = mul-le (suc (length (ancestors t s))) (f s) (suc d) (f s) le (omega arith)
