use Rattle.code_language.specs.Acceptance.{procs_of}
use Rattle.code_language.specs.Measures.{height_by}
use Rattle.code_language.specs.declared.limits.TheConstants.{HEIGHT_LIMIT}
use Rattle.code_language.proofs.MeasureLemmas.{Counted}
use Rattle.code_language.proofs.heights.greatest_height.Given as goal

-- the procedures so far are counted
abbrev pub invariant-loop-p : goal.invariant-loop-p
invariant-loop-p l = Counted height_by HEIGHT_LIMIT l.p l.greatest l.heights.items (procs_of l.procs)
