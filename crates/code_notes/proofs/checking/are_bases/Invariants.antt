use Rattle.code_notes.specs.Views.{plan_of}
use Rattle.code_notes.proofs.CheckLemmas.{AreBasesBefore}
use Rattle.code_notes.proofs.checking.are_bases.Given as goal

-- so far each note may begin as its own base
abbrev pub invariant-loop-note : goal.invariant-loop-note
invariant-loop-note l = AreBasesBefore (plan_of l.plan) l.note-index l.notes
