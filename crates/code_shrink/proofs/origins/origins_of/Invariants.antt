use Rattle.std.proofs.Common.{◌≡◌, ◌++◌, drop}
use Rattle.code_shrink.specs.Origins.{kept_from}
use Rattle.code_shrink.proofs.origins.origins_of.Given as goal

-- the numbers so far and those that are left are all
abbrev pub invariant-loop-proc : goal.invariant-loop-proc
invariant-loop-proc l = l.origins.items ++ kept_from l.proc (drop l.proc l.live) ≡ kept_from 0 l.live
