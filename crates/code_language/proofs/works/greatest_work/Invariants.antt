use Rattle.code_language.specs.Acceptance.{procs_of}
use Rattle.code_language.specs.Measures.{work_by}
use Rattle.code_language.specs.declared.limits.TheConstants.{WORK_LIMIT}
use Rattle.code_language.proofs.MeasureLemmas.{Counted}
use Rattle.code_language.proofs.works.greatest_work.Given as goal

-- the procedures so far are counted
abbrev pub invariant-loop-p : goal.invariant-loop-p
invariant-loop-p l = Counted work_by WORK_LIMIT l.p l.greatest l.works.items (procs_of l.procs)
