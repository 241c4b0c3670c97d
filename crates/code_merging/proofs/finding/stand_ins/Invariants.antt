use Rattle.std.proofs.Common.{◌≡◌, length}
use Rattle.code_merging.proofs.finding.stand_ins.Given as goal

-- there are as many
abbrev pub invariant-loop-round : goal.invariant-loop-round
invariant-loop-round l = length l.numbers.items ≡ length l.procs
