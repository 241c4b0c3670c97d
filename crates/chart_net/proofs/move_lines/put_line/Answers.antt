use Rattle.std.proofs.Common.{◌≡◌, ℕ, List, ◌∙◌, subst}
use Rattle.std.specs.Prelude.{decimal}
use Rattle.trace_text.specs.Pieces.{Written}
use Rattle.chart_net.specs.Moving.{own_line}
use Rattle.chart_net.proofs.LineParts.{line_parts}
use Rattle.chart_net.proofs.move_lines.put_line.Goals as goal

-- the parts make the line
pub returns : goal.returns
returns g c = λ w f all h.
    let name : c.as_bytes.result.now ≡ c.args.seat.now.name = c.as_bytes.ensures.value ∙ c.text.ensures in
    let h1 = c.put_digits.ensures w f all h in
    let h2 = c.put_byte.ensures w f _ h1 in
    let h3 = c.put.ensures w f _ h2 in
    let h4 = c.put_byte-2.ensures w f _ (rw name at h3) in
    let h5 = c.put_result.ensures w f _ h4 in
    subst (λ (z : List ℕ). Written w (g.O.Sink.wrote c.put_result.new.out) f (g.O.Sink.faults c.put_result.new.out) z
    c.put_result.new.pieces)
    (line_parts all (decimal c.args.p) c.args.seat.now.name
    (own_line g.G.Engine c.args.seat.now c.args.event c.args.fault c.args.full)) h5
