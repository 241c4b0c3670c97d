use Rattle.std.proofs.Common.{◌≡◌, drop}
use Rattle.c_bare.specs.Bare.{calls_bare}
use Rattle.c_bare.proofs.functions.calls_bare.Given as goal

-- the cases to come give what all give
abbrev pub invariant-loop-case : goal.invariant-loop-case
invariant-loop-case l = calls_bare l.flags (drop l.case-index l.cases) ≡ calls_bare l.flags l.cases
