-- Ranks of states, and the bounds that depend on more than a rank.
use Rattle.std.proofs.Common.{◌≡◌, ℕ, suc, ◌+◌, ◌*◌, ◌≤◌, Bool, true, false, length, Some, ap, arith}
use Rattle.std.specs.Prelude.{◌==◌, if◌then◌else◌}
use Rattle.std.proofs.lemmas.Bool.Decides.{nat_tests}
use Rattle.flow_base.specs.declared.chart_limits.TheConstants.{STATE_DEPTH_LIMIT}
use Rattle.active_config.specs.Tree.{Tree, parent_of, state_count}
use Rattle.active_config.proofs.PathLemmas.{ancestors-step}
use Rattle.checked_chart.specs.declared.parts.ListKind.{ListKind}
use Rattle.checked_chart.specs.declared.parts.ListKind.TheVariants.{Outer, Inner, Default}
use Rattle.checked_chart.specs.Chart.{Chart}
use Rattle.checked_chart.specs.Valid.{IsValid}
use Rattle.checked_chart.proofs.Trees.{child_is}
use Rattle.chart_code.specs.Keys.{Key, EndMark, Entry, During, ExitAction, Guard, ConditionOn, ConditionBare, Action}
use Rattle.chart_code.specs.Keys.{Leave, Exit, Arrive, ListOf, JunctionOf, Defaults, Take, Enter, Process}
use Rattle.layout_bounds.specs.HeightBounds.{rank, search_height, height_bound}

-- no rank is over the greatest depth
pub rank_most : (t : Tree) (s : ℕ) → rank t s ≤ STATE_DEPTH_LIMIT
unfolding rank
rank_most t s = omega arith

-- a child has one level less below it than its parent
pub child_rank : (c : Chart) → IsValid c → (s x : ℕ) → parent_of c.tree x ≡ Some s
    → suc (rank c.tree x) ≡ rank c.tree s
unfolding rank
child_rank c valid s x up =
    let child = child_is c.tree valid.tree s x up in
    let step = ap length (ancestors-step c.tree (state_count c.tree) valid.tree.pre_order x s child.within up) in
    omega (arith, step, valid.limits.depth x child.within)

-- ---- arriving

module _ (t : Tree) (s d : ℕ) where
  -- by whether the destination is the state itself
  abbrev by_test : Bool → ℕ
  by_test b = if b then 4 * rank t s + 4 else 4 * rank t s + 1

  -- at the state itself
  pub arrive_here : s ≡ d → height_bound t (Arrive s d) ≡ 4 * rank t s + 4
  arrive_here e = let yes : (s == d) ≡ true = grind (arith, nat_tests) in ap by_test yes

  -- below it
  pub arrive_below : (s == d) ≡ false → height_bound t (Arrive s d) ≡ 4 * rank t s + 1
  arrive_below e = ap by_test e

  -- no less than below it, and no more than at it
  pub arrive_between : (4 * rank t s + 1 ≤ height_bound t (Arrive s d))
      × (height_bound t (Arrive s d) ≤ 4 * rank t s + 4)
  arrive_between = go (s == d)
    where
      go : (b : Bool) → (4 * rank t s + 1 ≤ by_test b) × (by_test b ≤ 4 * rank t s + 4)
      go true = (omega arith, omega arith)
      go false = (omega arith, omega arith)

-- ---- all kinds

-- a list is no higher than those that fire
search_most : (t : Tree) (s : ℕ) (kind : ListKind) → search_height t s kind ≤ 4 * STATE_DEPTH_LIMIT + 6
search_most t s Outer = omega arith
search_most t s Inner = omega arith
search_most t s Default = omega (arith, rank_most t s)

-- no kind is higher than processing the root
pub bound_most : (t : Tree) (key : Key) → height_bound t key ≤ 5 * STATE_DEPTH_LIMIT + 7
bound_most t EndMark = omega arith
bound_most t (Entry s) = omega arith
bound_most t (During s) = omega arith
bound_most t (ExitAction s) = omega arith
bound_most t (Guard e) = omega arith
bound_most t (ConditionOn ss) = omega arith
bound_most t (ConditionBare ss) = omega arith
bound_most t (Action ss) = omega arith
bound_most t (Leave s) = omega (arith, rank_most t s)
bound_most t (Exit s) = omega (arith, rank_most t s)
bound_most t (Arrive s d) = omega (arith, (arrive_between t s d).1, rank_most t s)
bound_most t (ListOf s kind) = omega (arith, search_most t s kind)
bound_most t (JunctionOf s kind j) = omega (arith, search_most t s kind)
bound_most t (Defaults s) = omega (arith, rank_most t s)
bound_most t (Take s d) = omega (arith, rank_most t s)
bound_most t (Enter s d) = omega (arith, rank_most t s)
bound_most t (Process s) = omega (arith, rank_most t s)
