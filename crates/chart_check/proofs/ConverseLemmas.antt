-- The net of a resolved chart that stands for a valid chart has no fault, where words are compositions.
use Rattle.std.proofs.Common.{◌≡◌, ℕ, ◌<◌, sym, subst}
use Rattle.active_config.specs.Tree.{state_count, comp_of}
use Rattle.chart_tree.specs.declared.first.FaultAt.{FaultAt}
use Rattle.checked_chart.specs.Valid as valid
use Rattle.resolved_tree.specs.Resolved.{Resolved}
use Rattle.resolved_tree.specs.Plain.{chart_of}
use Rattle.resolved_tree.specs.Promise.{KeepsPromise}
use Rattle.chart_structure.specs.Net.{word_of}
use Rattle.chart_structure.specs.Structure.{StructureFault, PairFault}
use Rattle.chart_structure.specs.Valid as nets
use Rattle.chart_structure.proofs.ChartLemmas.{valid_net}
use Rattle.chart_structure.proofs.ValidLemmas.{no_fault, no_pair_fault}
use Rattle.chart_check.specs.Nets.{net_of}
use Rattle.chart_check.proofs.BareLemmas.{valid_by_erased}
use Rattle.chart_check.proofs.ErasedLemmas.{net_same}
use Rattle.chart_check.proofs.NetLemmas.{is_net}

module _ (r : Resolved) (res : KeepsPromise r)
    (words : (s : ℕ) → s < state_count r.tree → word_of (net_of r) s ≡ comp_of r.tree s)
    (v : valid.IsValid (chart_of r)) where
  net_valid : nets.IsValid (net_of r)
  net_valid =
      let bare = valid_net (chart_of r) v.tree v.structure v.limits.pairs in
      valid_by_erased (net_of r) (subst nets.IsValid (sym (net_same r res words)) bare)

  pub no_structure_fault : (f : FaultAt) → StructureFault (net_of r) f → ⊥
  no_structure_fault f h = no_fault (net_of r) (is_net r res) net_valid f h

  pub few_pairs : (f : FaultAt) → PairFault (net_of r) f → ⊥
  few_pairs f h = no_pair_fault (net_of r) (is_net r res) net_valid f h
