use Rattle.std.proofs.Common.{◌≡◌, ◌+◌, List, ℕ, length, refl, sym, ap, ◌∙◌, arith}
use Rattle.std.specs.Prelude.{slice_range}
use Rattle.event_file.specs.Lines.{line_length}
use Rattle.event_file.specs.Reading.{Reading, cut_at}
use Rattle.event_file.specs.declared.cuts.Cut.TheVariants as cuts
use Rattle.event_file.proofs.Taking.{takes_line}
use Rattle.event_file.proofs.line_reader.LineReader.take_line.Goals as goal

pub returns-in-Line : goal.returns-in-Line
returns-in-Line c =
    let old = c.args.self.now in
    let buffer = c.self.inside.buffer.items in
    let start = c.self.inside.start in
    let end = c.self.inside.end in
    let size = c.in-Line.size in
    let was : slice_range buffer start end ≡ old.pending = ap (λ (r : Reading). r.pending) c.self.view_is in
    let seen : slice_range c.deref.result.now start end ≡ old.pending =
    ap (λ (b : List ℕ). slice_range b start end) c.deref.ensures.value ∙ was in
    let at : c.self.inside.at ≡ old.at = ap (λ (r : Reading). r.at) c.self.view_is in
    let number : c.self.inside.number ≡ old.number = ap (λ (r : Reading). r.number) c.self.view_is in
    let length_is : c.args.plain_length ≡ line_length old.pending = c.requires.length in
    let cut : cut_at old.at (line_length old.pending) (length old.pending) ≡ cuts.Line size =
    let e = c.in-Line.ensures in sym (rw (seen, length_is, at) at e) in
    let line = let k = c.length_without_return-kept.ensures.line in rw (seen, length_is) at k in
    let fits = let k = c.length_without_return-kept.ensures.within in rw (seen, length_is) at k in
    takes_line old _ buffer start end size c.length_without_return-kept.result was (omega arith) (omega arith) cut line fits
    refl refl (ap (λ m. m + size) at) (ap (λ m. m + 1) number) (ap (λ (r : Reading). r.ended) c.self.view_is)
    (ap (λ (r : Reading). r.failed) c.self.view_is ∙ c.requires.usable) c.requires.ready
