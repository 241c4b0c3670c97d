use Rattle.std.specs.Prelude.{slice_index}
use Rattle.code_language.proofs.MeasureLemmas.{LeftFrom}
use Rattle.code_language.proofs.works.work_of.Given as goal

-- what is left from each place so far
abbrev pub invariant-loop-place : goal.invariant-loop-place
invariant-loop-place l = LeftFrom (slice_index l.works) l.instrs l.place l.lefts.items
