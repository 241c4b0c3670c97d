use Rattle.code_notes.specs.Views.{plan_of}
use Rattle.code_notes.specs.Noteless.{BeginsAsBase}
use Rattle.code_notes.proofs.CheckLemmas.{one_more_item, all_bases}
use Rattle.code_notes.proofs.checking.are_bases.Goals as goal

-- each note may
pub returns : goal.returns
returns c h =
    all_bases (plan_of c.args.plan.now) c.loop-note.note-index c.args.notes.now c.loop-note-test.false
    c.loop-note.invariant

-- one note more
pub loop-note-preserved : goal.loop-note-preserved
loop-note-preserved c =
    one_more_item (λ _ q. BeginsAsBase (plan_of c.args.plan.now) q) c.loop-note.note-index c.args.notes.now
    (c.begins_as_base.ensures c.if-not-begins_as_base.false) c.loop-note.invariant
