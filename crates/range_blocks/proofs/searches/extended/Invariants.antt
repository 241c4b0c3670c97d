use Rattle.std.proofs.Common.{vec_len}
use Rattle.checked_chart.specs.Views.{block_seen}
use Rattle.range_blocks.proofs.FiringLemmas.{Extending}
use Rattle.range_blocks.proofs.searches.extended.Given as goal

abbrev pub invariant-loop-firing : goal.invariant-loop-firing
invariant-loop-firing l = Extending l.setting (block_seen l.action) l.fn.fires.items l.left.items l.all.items

abbrev pub decreases-loop-firing : goal.decreases-loop-firing
decreases-loop-firing l = vec_len l.left
