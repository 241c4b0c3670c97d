-- There are no more reached junctions than pairs of a list and a transition.
use Rattle.std.proofs.Common.{ℕ, zero, suc, ◌+◌, ◌≤◌, List, [], ◌∷◌, length, arith}
use Rattle.active_config.specs.Tree.{state_count}
use Rattle.checked_chart.specs.declared.parts.Dest.{Dest}
use Rattle.checked_chart.specs.declared.parts.Dest.TheVariants.{State, Junction}
use Rattle.checked_chart.specs.declared.parts.ListKind.TheVariants.{Outer, Inner, Default}
use Rattle.checked_chart.specs.Chart.{Chart, Trans, list_of, junction, junction_count}
use Rattle.checked_chart.specs.Reached.{links_of, ArePairs, PairsBelow, ChartPairs}
use Rattle.checked_chart.specs.Valid.{IsValid, AreTrans}
use Rattle.chart_code.specs.Orders.{sum_to}
use Rattle.chart_code.specs.Places.{reached_count, reached_total}
use Rattle.chart_code.specs.ReachedJunctions.{has, with_junction, junctions_to, reached}
use Rattle.chart_code.proofs.ReachedLemmas.{are_reached, reached_few, list_valid}
use Rattle.chart_code.proofs.Weights.{sum_weight, weight_le, sum_over_le}

-- a list leads to no more junctions than it has transitions
to_few : (ts : List Trans) → length (junctions_to ts) ≤ length ts
unfolding junctions_to
to_few [] = omega arith
to_few (t ∷ ts) = at t.dest (to_few ts)
  where
    at : (d : Dest) → length (junctions_to ts) ≤ length ts
        → length (with_junction d (junctions_to ts)) ≤ length (t ∷ ts)
    at (State d) h = omega arith
    at (Junction j) h = omega arith

module _ (c : Chart) (valid : IsValid c) where
  -- those of a list
  list_pairs : (list : List Trans) (count : ℕ) → AreTrans c list → ArePairs (links_of c) list count
      → length (reached c list) ≤ count
  list_pairs list count are pairs =
      let all = reached c list in
      let facts = are_reached c valid list are in
      let w : ℕ → ℕ = λ j. length (junction c j) in
      omega (
        arith,
        reached_few c valid list are,
        to_few list,
        sum_over_le (λ j. length (junctions_to (junction c j))) w all (λ j. to_few (junction c j)),
        sum_weight w all (junction_count c) facts.once facts.within,
        weight_le (has all) pairs.within w (junction_count c) (λ j h. (pairs.exact j).1 ((facts.exact j).0 h)),
        pairs.sum,
      )

  -- the junctions that the lists of a state reach
  abbrev of_state : ℕ → ℕ
  of_state s = reached_count c s Outer + reached_count c s Inner + reached_count c s Default

  -- those of the first states
  pairs_below : (n count : ℕ) → PairsBelow (links_of c) n count → sum_to of_state n ≤ count
  unfolding sum_to reached_count
  pairs_below zero count e = omega (arith, e)
  pairs_below (suc s) count h =
      let own = h.2 in
      omega (
        arith,
        pairs_below s h.1 h.3,
        list_pairs (list_of c s Outer) own.outer (list_valid c valid s Outer) own.of_outer,
        list_pairs (list_of c s Inner) own.inner (list_valid c valid s Inner) own.of_inner,
        list_pairs (list_of c s Default) own.default (list_valid c valid s Default) own.of_default,
        own.sum,
        h.4,
      )

  -- those of all states
  pub reached_pairs : (count : ℕ) → ChartPairs c count → reached_total c ≤ count
  unfolding reached_total
  reached_pairs count h = pairs_below (state_count c.tree) count h
