use Rattle.code_notes.proofs.CheckLemmas.{instr_here}
use Rattle.code_notes.proofs.played.has_player.Goals as goal

-- there it stands for one
pub returns-then-stands_for : goal.returns-then-stands_for
returns-then-stands_for c h =
    let both = c.stands_for.ensures c.if-stands_for.true in (
      c.loop-place.place,
      instr_here c.args.instrs.now c.loop-place.place c.index-instrs-place.result _ c.loop-place-test.true
          c.index-instrs-place.is both.0,
      both.1,
    )
