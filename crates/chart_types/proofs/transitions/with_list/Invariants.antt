use Rattle.actions.specs.Names.{names_of}
use Rattle.resolved_tree.specs.Views.{trans_of, resolved_of}
use Rattle.resolved_tree.specs.Promise.{IsTrans}
use Rattle.chart_types.specs.Types.{trans_faults}
use Rattle.chart_types.proofs.FaultLemmas.{IsLeft}
use Rattle.chart_types.proofs.transitions.with_list.Given as goal

abbrev pub invariant-loop-trans : goal.invariant-loop-trans
invariant-loop-trans l =
    IsLeft (IsTrans (resolved_of l.resolved)) trans_of
    (trans_faults (names_of l.resolved.names)) l.fn.found l.list l.trans-index l.first
