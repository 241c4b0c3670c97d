use Rattle.std.proofs.Common.{◌≤◌, length, subst}
use Rattle.code_notes.specs.Views.{plan_of}
use Rattle.code_notes.specs.Noteless.{AreBases}
use Rattle.code_notes.proofs.CheckLemmas.{one_more_player, all_players}
use Rattle.code_notes.proofs.checking.are_players_right.Goals as goal

-- the notes of all new procedures may
pub returns : goal.returns
returns c h =
    all_players (plan_of c.args.plan.now) c.loop-notes.notes-index c.args.plan.now.players.items
    (subst (λ l. length l ≤ c.loop-notes.notes-index) c.deref-notes-items.ensures.value c.loop-notes-test.false)
    c.loop-notes.invariant

-- one new procedure more
pub loop-notes-preserved : goal.loop-notes-preserved
loop-notes-preserved c =
    one_more_player (plan_of c.args.plan.now) c.loop-notes.notes-index c.args.plan.now.players.items
    c.notes-item.result (rw c.deref-notes-items.ensures.value at c.loop-notes-test.true)
    (rw c.deref-notes-items.ensures.value at c.notes-item.is)
    (subst (AreBases (plan_of c.args.plan.now)) c.deref.ensures.value (c.are_bases.ensures c.if-not-are_bases.false))
    c.loop-notes.invariant
