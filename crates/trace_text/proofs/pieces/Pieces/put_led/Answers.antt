use Rattle.std.proofs.Common.{refl}
use Rattle.trace_text.proofs.PieceLemmas.{kept_both}
use Rattle.trace_text.proofs.PutLemmas.{puts_both}
use Rattle.trace_text.proofs.pieces.Pieces.put_led.Goals as goal

pub returns-then-has_room : goal.returns-then-has_room
returns-then-has_room g c = λ w f all h. kept_both w _ f _ all _ _ _ _ _ c.keep_byte.ensures c.keep.ensures h

pub returns-else-has_room : goal.returns-else-has_room
returns-else-has_room g c = puts_both _ _ _ _ _ _ _ _ _ _ _ _ c.put_one.ensures c.put_bytes.ensures refl
