use Rattle.std.proofs.Common.{◌≡◌}
use Rattle.code_merging.specs.Merged.{numbers_from}
use Rattle.code_merging.proofs.finding.own_numbers.Given as goal

-- so many are there
abbrev pub invariant-loop-p : goal.invariant-loop-p
invariant-loop-p l = l.numbers.items ≡ numbers_from 0 l.p
