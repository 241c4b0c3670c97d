use Rattle.std.proofs.Common.{◌<◌, ℕ}
use Rattle.code_results.proofs.CheckLemmas.{MayBegin}
use Rattle.code_results.proofs.checking.may_begin.Given as goal

-- so far each procedure may begin with any result
abbrev pub invariant-loop-places : goal.invariant-loop-places
invariant-loop-places l = (p : ℕ) → p < l.places-index → MayBegin l.plan.places.items p
