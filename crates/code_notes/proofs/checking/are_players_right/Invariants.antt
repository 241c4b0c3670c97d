use Rattle.code_notes.specs.Views.{lists_of, plan_of}
use Rattle.code_notes.proofs.CheckLemmas.{ArePlayersBefore}
use Rattle.code_notes.proofs.checking.are_players_right.Given as goal

-- so far the notes of each new procedure may begin as their own base
abbrev pub invariant-loop-notes : goal.invariant-loop-notes
invariant-loop-notes l = ArePlayersBefore (plan_of l.plan) l.notes-index (lists_of l.plan.players.items)
