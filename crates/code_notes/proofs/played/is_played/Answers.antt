use Rattle.code_results.proofs.CheckLemmas.{written_there}
use Rattle.code_notes.proofs.played.is_played.Goals as goal

-- it stands for one of the procedure
pub returns-in-Some : goal.returns-in-Some
returns-in-Some c h =
    let look = c.in-Some.ensures.lookup in
    let found = c.has_player.ensures h in
    record {
      place = found.0;
      plays = written_there c.args.raw.now c.items.result.now c.args.proc found.0 c.in-Some.instrs.now
          c.items-in-Some.result.now _ c.items.ensures look.3.0 look.1 c.items-in-Some.ensures found.1;
      player = found.2;
    }
