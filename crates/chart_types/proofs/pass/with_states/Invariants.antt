use Rattle.actions.specs.Names.{names_of}
use Rattle.resolved_tree.specs.Views.{state_of, resolved_of}
use Rattle.resolved_tree.specs.Promise.{IsStateOf}
use Rattle.chart_types.specs.Types.{state_faults}
use Rattle.chart_types.proofs.FaultLemmas.{IsLeft}
use Rattle.chart_types.proofs.pass.with_states.Given as goal

abbrev pub invariant-loop-state : goal.invariant-loop-state
invariant-loop-state l =
    IsLeft (IsStateOf (resolved_of l.resolved)) state_of
    (state_faults (names_of l.resolved.names)) l.fn.found l.states l.state-index l.first
