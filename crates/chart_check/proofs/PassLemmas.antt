-- The passes over a resolved chart, one after the other.
use Rattle.std.proofs.Common.{◌≡◌, ◌<◌, List, [], Option, Some, None, sym, subst, arith, ⊎_elim}
use Rattle.active_config.specs.Tree.{state_count}
use Rattle.chart_tree.specs.declared.first.FaultAt.{FaultAt}
use Rattle.chart_structure.specs.Marks.{state_bound}
use Rattle.chart_structure.specs.Net.{Net}
use Rattle.chart_structure.specs.Pass as structure
use Rattle.checked_chart.specs.Chart.{Chart}
use Rattle.checked_chart.specs.Valid.{IsValid}
use Rattle.resolved_tree.specs.Faults.{first_of}
use Rattle.resolved_tree.specs.Plain.{chart_of}
use Rattle.resolved_tree.specs.Promise.{KeepsPromise}
use Rattle.resolved_tree.specs.Resolved.{Resolved}
use Rattle.resolved_tree.proofs.FirstLemmas.{none_found}
use Rattle.chart_types.specs.Types.{type_faults}
use Rattle.chart_check.specs.Nets.{net_of}
use Rattle.chart_check.proofs.ChartLemmas.{chart_valid}
use Rattle.chart_check.specs.Check.{HasNoFaults, IsFirstOf, OfTypes, OfStructure, OfPairs, IsAnswer}

-- the net of a resolved chart has no more states than a chart may have
pub few_states : (r : Resolved) (n : Net) → KeepsPromise r → n ≡ net_of r → state_count n.tree < state_bound
unfolding net_of chart_of
few_states r n h e =
    subst (λ m. state_count m.tree < state_bound) (sym e) (let few = h.small.states in omega (arith, few))

-- where there is no fault of types, the answer for the net is that for the chart
pub of_net : (r : Resolved) (n : Net) (fault : Option FaultAt) → first_of (type_faults r) ≡ None → n ≡ net_of r
    → structure.IsAnswer n fault → IsAnswer r fault
of_net r n None e same h =
    let k = subst (λ m. structure.IsAnswer m None) same h in
    record { types = none_found (type_faults r) e; structure = k.0; pairs = k.1 }
of_net r n (Some f) e same h = ⊎_elim
    (λ first. OfStructure (none_found (type_faults r) e) first)
    (λ p. OfPairs (none_found (type_faults r) e) p.0 p.1)
    (subst (λ m. structure.IsAnswer m (Some f)) same h)

-- a sound resolved chart stands for a valid chart
pub sound_valid : (r : Resolved) (c : Chart) → KeepsPromise r → HasNoFaults r → c ≡ chart_of r → IsValid c
sound_valid r c h s e = subst IsValid (sym e) (chart_valid r h s.types s.structure s.pairs)
