-- The pairs of the net of a sound resolved chart are those of the chart for which it stands.
use Rattle.std.proofs.Common.{◌≡◌, ℕ, ◌≤◌, arith, sym, subst}
use Rattle.checked_chart.specs.declared.limits.TheConstants.{PAIR_LIMIT}
use Rattle.checked_chart.specs.Chart.{Chart}
use Rattle.checked_chart.specs.Reached.{ChartPairs}
use Rattle.resolved_tree.specs.Plain.{chart_of}
use Rattle.resolved_tree.specs.Promise.{KeepsPromise}
use Rattle.resolved_tree.specs.Resolved.{Resolved}
use Rattle.chart_structure.specs.Charts.{net_of_chart}
use Rattle.chart_structure.specs.Erased.{erased}
use Rattle.chart_structure.specs.Net.{Net}
use Rattle.chart_structure.specs.Pass.{CountsPairs}
use Rattle.chart_structure.specs.Reached.{NetPairs}
use Rattle.chart_structure.specs.Valid.{IsValid}
use Rattle.chart_structure.proofs.ChartLemmas.{pairs_back}
use Rattle.chart_structure.proofs.ErasedLemmas.{pairs_back as erased_back}
use Rattle.chart_structure.proofs.PairLemmas.{one_number_of_net}
use Rattle.chart_check.specs.Check.{HasNoFaults}
use Rattle.chart_check.specs.Nets.{net_of}
use Rattle.chart_check.proofs.ChartLemmas.{sound_net, bare_net}

-- a number that is the count of a chart's pairs, and at most their limit
pub record ArePairs (c : Chart) (pairs : ℕ) : Type 0 where
  pub are : ChartPairs c pairs
  pub few : pairs ≤ PAIR_LIMIT

-- the pairs of a net without places are those of the net
net_pairs : (n bare : Net) (count : ℕ) → erased n ≡ bare → NetPairs bare count → NetPairs n count
net_pairs n bare count same are =
    erased_back n count (subst (λ m. NetPairs m count) (sym same) are)

-- what is counted in a valid net, which has at most the limit, is the number of its pairs
counted : (n : Net) (pairs count : ℕ) → IsValid n → CountsPairs n pairs → NetPairs n count → pairs ≡ count
counted n pairs count v c are =
    let one = one_number_of_net n in
    let here = one.2 c.count c.are in
    let there = one.2 count are in
    let few = v.pairs c.count c.are in
    let bounded = c.bounded in
    omega (arith, here, there, few, bounded)

-- what is counted in the net of a sound resolved chart is the number of pairs of its chart
pub pairs_are : (r : Resolved) (pairs : ℕ) → KeepsPromise r → HasNoFaults r → CountsPairs (net_of r) pairs
    → ArePairs (chart_of r) pairs
pairs_are r pairs res s c =
    let v = sound_net r res s.structure s.pairs in
    let one = one_number_of_net (net_of_chart (chart_of r)) in
    let of_net = net_pairs (net_of r) (net_of_chart (chart_of r)) one.0 (bare_net r res v) one.1 in
    let same = counted (net_of r) pairs one.0 v c of_net in
    let few = v.pairs one.0 of_net in
    let are : ChartPairs (chart_of r) one.0 = pairs_back (chart_of r) one.0 one.1 in
    record { are = subst (ChartPairs (chart_of r)) (sym same) are; few = omega (arith, few, same) }
