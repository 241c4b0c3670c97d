use Rattle.code_shrink.proofs.NumberLemmas.{NumbersTo}
use Rattle.code_shrink.proofs.numbers.numbers_of.Given as goal

-- the numbers of the procedures so far
abbrev pub invariant-loop-is_live : goal.invariant-loop-is_live
invariant-loop-is_live l = NumbersTo l.live l.is_live-index l.number l.numbers.items
