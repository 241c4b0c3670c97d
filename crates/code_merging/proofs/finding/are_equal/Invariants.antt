use Rattle.std.proofs.Common.{ℕ, ◌<◌}
use Rattle.code_language.specs.Acceptance.{procs_of}
use Rattle.code_shrink.specs.Numbers.{number_by}
use Rattle.code_merging.specs.Merged.{StandsFor}
use Rattle.code_merging.proofs.finding.are_equal.Given as goal

-- those so far are equal
abbrev pub invariant-loop-p : goal.invariant-loop-p
invariant-loop-p l = (q : ℕ) → q < l.p → StandsFor (number_by l.numbers) (procs_of l.procs) q
