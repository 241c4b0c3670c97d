-- The pairs of a list of a state and a transition that is met from it.
use Rattle.std.proofs.Common.{ℕ, zero, suc, ◌+◌, ◌≤◌, List, length, refl, ap, arith}
use Rattle.active_config.specs.Tree.{state_count}
use Rattle.checked_chart.specs.declared.parts.ListKind.TheVariants.{Outer, Inner, Default}
use Rattle.checked_chart.specs.Chart.{Chart, Trans, list_of, junction, junction_count}
use Rattle.checked_chart.specs.Reached.{links_of, ArePairs, StatePairs, PairsBelow}
use Rattle.checked_chart.specs.Valid.{IsValid, AreTrans}
use Rattle.chart_code.specs.Orders.{sum_to}
use Rattle.chart_code.specs.ReachedJunctions.{has, reached, sum_over}
use Rattle.chart_code.specs.Places.{reached_total}
use Rattle.chart_code.proofs.Pairs.{reached_pairs}
use Rattle.chart_code.proofs.ReachedLemmas.{are_reached, list_valid}
use Rattle.chart_code.proofs.Weights.{sum_weight}

module _ (c : Chart) (valid : IsValid c) where
  -- the transitions of a junction
  abbrev pub at_junction : ℕ → ℕ
  at_junction j = length (junction c j)

  -- those of a list and of the junctions that are reached from it
  unfoldable pub pairs_of : List Trans → ℕ
  pairs_of list = length list + sum_over at_junction (reached c list)

  -- they are the pairs of the list
  list_pairs : (list : List Trans) → AreTrans c list → ArePairs (links_of c) list (pairs_of list)
  unfolding pairs_of
  list_pairs list are =
      let facts = are_reached c valid list are in
      record {
        within = has (reached c list);
        exact = facts.exact;
        sum = ap (λ n. length list + n)
            (sum_weight at_junction (reached c list) (junction_count c) facts.once facts.within);
      }

  -- those of the lists of a state
  abbrev pub state_pairs : ℕ → ℕ
  state_pairs s = pairs_of (list_of c s Outer) + pairs_of (list_of c s Inner) + pairs_of (list_of c s Default)

  of_state : (s : ℕ) → StatePairs (links_of c) s (state_pairs s)
  of_state s = record {
    outer = pairs_of (list_of c s Outer);
    inner = pairs_of (list_of c s Inner);
    default = pairs_of (list_of c s Default);
    of_outer = list_pairs (list_of c s Outer) (list_valid c valid s Outer);
    of_inner = list_pairs (list_of c s Inner) (list_valid c valid s Inner);
    of_default = list_pairs (list_of c s Default) (list_valid c valid s Default);
    sum = refl;
  }

  -- those of the first states
  below : (n : ℕ) → PairsBelow (links_of c) n (sum_to state_pairs n)
  unfolding sum_to
  below zero = refl {a = 0}
  below (suc s) = (state_pairs s, sum_to state_pairs s, of_state s, below s, refl)

  -- those of all states are within the limit
  pub pairs_few : sum_to state_pairs (state_count c.tree) ≤ 32768
  pairs_few = valid.limits.pairs (sum_to state_pairs (state_count c.tree)) (below (state_count c.tree))

  -- and so are the junctions that are reached from lists
  pub reached_few : reached_total c ≤ 32768
  reached_few =
      omega (
        arith,
        pairs_few,
        reached_pairs c valid (sum_to state_pairs (state_count c.tree)) (below (state_count c.tree)),
      )
