use Rattle.std.proofs.Common.{◌≡◌, length}
use Rattle.code_merging.proofs.finding.find_once.Given as goal

-- there are as many
abbrev pub invariant-loop-p : goal.invariant-loop-p
invariant-loop-p l = length l.numbers.items ≡ length l.initial.numbers.items
