use Rattle.std.proofs.Common.{drop}
use Rattle.checked_chart.specs.Views.{block_seen}
use Rattle.bound_prove.proofs.Pieces.{BlockSoFar}
use Rattle.bound_prove.proofs.lookup.Lookup.block_need.Given as goal

abbrev pub invariant-loop-stmt : goal.invariant-loop-stmt
invariant-loop-stmt l =
    BlockSoFar l.self l.fn.met.items l.met.items (block_seen l.stmts) (block_seen (drop l.stmt-index l.stmts)) l.need
