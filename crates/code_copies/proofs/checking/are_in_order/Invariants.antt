use Rattle.std.proofs.Common.{drop}
use Rattle.code_copies.proofs.CheckLemmas.{Ascends}
use Rattle.code_copies.proofs.checking.are_in_order.Given as goal

-- all ascend where those that are left do
abbrev pub invariant-loop-copy : goal.invariant-loop-copy
invariant-loop-copy l = Ascends l.last (drop l.copy-index l.copies) → Ascends 0 l.copies
