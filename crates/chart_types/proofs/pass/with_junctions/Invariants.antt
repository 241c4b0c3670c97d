use Rattle.resolved_tree.specs.Resolved.{Junction}
use Rattle.actions.specs.Names.{names_of}
use Rattle.resolved_tree.specs.Views.{junction_of, resolved_of}
use Rattle.resolved_tree.specs.Promise.{AreTrans}
use Rattle.chart_types.specs.Types.{list_faults}
use Rattle.chart_types.proofs.FaultLemmas.{IsLeft}
use Rattle.chart_types.proofs.pass.with_junctions.Given as goal

abbrev pub invariant-loop-junction : goal.invariant-loop-junction
invariant-loop-junction l =
    IsLeft (λ (j : Junction). AreTrans (resolved_of l.resolved) j.list) junction_of
    (λ (j : Junction). list_faults (names_of l.resolved.names) j.list) l.fn.found l.junctions l.junction-index l.first
