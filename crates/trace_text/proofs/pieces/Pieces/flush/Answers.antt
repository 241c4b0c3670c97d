use Rattle.std.proofs.Common.{◌≡◌, take, false, sym, ap, ◌∙◌}
use Rattle.std.specs.Io.KnownBytes.{append_known}
use Rattle.trace_text.specs.Pieces.{Held}
use Rattle.trace_text.proofs.PieceLemmas.{flushed, flush_failed, passed}
use Rattle.trace_text.proofs.pieces.Pieces.flush.Goals as goal

pub returns-in-Ok-clause-written : goal.returns-in-Ok-clause-written
returns-in-Ok-clause-written g c = λ w f all h.
    let held = c.args.self.now in
    let open' : held.failed ≡ false = sym (ap (λ (x : Held). x.failed) c.self.view_is) ∙ c.if-self.false in
    let bytes : take c.self.inside.len c.self.inside.buffer ≡ held.bytes = ap (λ (x : Held). x.bytes) c.self.view_is in
    let wrote = c.in-Ok.ensures.ok ∙ ap (append_known (g.O.Sink.wrote c.args.out.now)) bytes in
    rw c.if-self.false (flushed w _ _ f _ _ all held.bytes (passed w _ f _ all held open' h) wrote (c.in-Ok.ensures.cause.ok))

pub returns-in-Err-clause-written : goal.returns-in-Err-clause-written
returns-in-Err-clause-written g c = λ w f all h.
    let held = c.args.self.now in
    let open' : held.failed ≡ false = sym (ap (λ (x : Held). x.failed) c.self.view_is) ∙ c.if-self.false in
    let bytes : take c.self.inside.len c.self.inside.buffer ≡ held.bytes = ap (λ (x : Held). x.bytes) c.self.view_is in
    let front = let k = c.in-Err.ensures.failed in rw bytes at k in
    flush_failed w _ _ f _ _ all held.bytes (passed w _ f _ all held open' h) front (c.in-Err.ensures.cause.failed) (c.in-Err.ensures.cause.later)
