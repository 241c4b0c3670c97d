use Rattle.std.proofs.Common.{◌≡◌, true, [], ◌∷◌, sym, ap, ◌∙◌}
use Rattle.trace_text.specs.Pieces.{Held}
use Rattle.trace_text.proofs.PieceLemmas.{written_kept, written_failed}
use Rattle.trace_text.proofs.pieces.Pieces.put_one.Goals as goal

pub returns-then-self : goal.returns-then-self
returns-then-self g c = λ w f all h.
    let held = c.make_room.new.self in
    let lost : held.failed ≡ true = sym (ap (λ (x : Held). x.failed) c.self.view_is) ∙ c.if-self.true in
    written_failed w _ f _ all (c.args.byte ∷ []) held lost (c.make_room.ensures.written w f all h)

pub returns : goal.returns
returns g c = λ w f all h.
    written_kept w _ f _ all (c.args.byte ∷ []) c.make_room.new.self _ c.keep_byte.ensures (c.make_room.ensures.written w f all h)
