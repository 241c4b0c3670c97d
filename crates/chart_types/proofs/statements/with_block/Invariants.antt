use Rattle.actions.specs.Names.{names_of}
use Rattle.resolved_tree.specs.Views.{stmt_of, resolved_of}
use Rattle.resolved_tree.specs.Promise.{IsStmt}
use Rattle.chart_types.specs.Types.{stmt_faults}
use Rattle.chart_types.proofs.FaultLemmas.{IsLeft}
use Rattle.chart_types.proofs.statements.with_block.Given as goal

abbrev pub invariant-loop-stmt : goal.invariant-loop-stmt
invariant-loop-stmt l =
    IsLeft (IsStmt (resolved_of l.resolved)) stmt_of
    (stmt_faults (names_of l.resolved.names)) l.fn.found l.block l.stmt-index l.first
