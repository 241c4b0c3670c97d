use Rattle.std.proofs.Common.{◌≡◌, ◌++◌, drop}
use Rattle.code_shrink.specs.Origins.{kept_from}
use Rattle.code_copies.proofs.tested.numbers_of.Given as goal

-- the numbers so far and those that are left are all
abbrev pub invariant-loop-number : goal.invariant-loop-number
invariant-loop-number l = l.numbers.items ++ kept_from l.number (drop l.number l.flags) ≡ kept_from 0 l.flags
