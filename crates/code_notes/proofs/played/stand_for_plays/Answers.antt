use Rattle.std.proofs.Common.{arith}
use Rattle.std.proofs.lemmas.Option.{slice_get_within}
use Rattle.code_notes.proofs.played.stand_for_plays.Goals as goal

-- each new procedure does
pub returns-clause-each : goal.returns-clause-each
returns-clause-each c h q p e =
    let within = slice_get_within c.args.plan.now.played.items q p e in
    let size = c.deref-proc-items.ensures.value in
    let test = c.loop-player-test.false in
    c.loop-player.invariant q (omega (arith, within, rw size at test)) p e
