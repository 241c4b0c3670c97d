use Rattle.std.proofs.Common.{ap}
use Rattle.c_lines.proofs.Cuts.{cut_on}
use Rattle.c_lines.specs.Cut as spec
use Rattle.c_lines.proofs.Letters.{next_letter, no_letter, written_more, written_all}
use Rattle.c_lines.proofs.cutting.print_cut.Goals as goal

pub loop-letter-preserved : goal.loop-letter-preserved
loop-letter-preserved c =
    let next = next_letter _ _ c.in-Some.letter c.loop-letter.invariant.text c.in-Some.ensures.steps.0 in
    record {
      text = next.1;
      so_far =
          written_more _ _ _ _ _ _ c.in_ok-print_letter.ensures
          (cut_on c.loop-letter.room _ c.in-Some.letter _ _ next.0 c.room_after-room.ensures)
          c.loop-letter.invariant.so_far;
    }

pub returns : goal.returns
unfolding spec.cut
returns c =
    written_all _ _ _ (ap (spec.cut_from c.loop-letter.room) (no_letter _ c.in-None.ensures.steps.0.0))
    c.loop-letter.invariant.so_far
