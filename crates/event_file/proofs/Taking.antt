-- A line that is taken from the bytes at hand.
use Rattle.std.proofs.Common.{◌≡◌, ℕ, ◌+◌, ◌-◌, ◌≤◌, true, false, List, ◌++◌, length}
use Rattle.std.proofs.Common.{take, drop, sym, ap, ◌∙◌, arith, length-append, length-drop}
use Rattle.std.specs.Prelude.{slice_range}
use Rattle.std.proofs.lemmas.List.{length-take-le, take-take}
use Rattle.event_file.specs.Lines.{line_length, without_return, spelled}
use Rattle.event_file.specs.NextLine.{TakesLine}
use Rattle.event_file.specs.Reading.{Reading, cut_at, is_ready}
use Rattle.event_file.specs.declared.cuts.Cut.TheVariants as cuts
use Rattle.event_file.proofs.LineLemmas.{line_length-le, take_line-plain}
use Rattle.event_file.proofs.Windows.{Parts, parts_of, cut-short, cut-within, cut-some}
use Rattle.event_file.proofs.Windows.{window_after, window_front, open_at_end}

-- a line was taken, where its parts are known
pub takes_line : (old new : Reading) (buffer : List ℕ) (start end size kept : ℕ)
    → slice_range buffer start end ≡ old.pending → start ≤ end → end ≤ length buffer
    → cut_at old.at (line_length old.pending) (length old.pending) ≡ cuts.Line size
    → take kept (take (line_length old.pending) old.pending) ≡ without_return (take (line_length old.pending) old.pending)
    → kept ≤ length (take (line_length old.pending) old.pending)
    → new.line ≡ slice_range buffer start (start + kept) → new.pending ≡ slice_range buffer (start + size) end
    → new.at ≡ old.at + size → new.number ≡ old.number + 1 → new.ended ≡ old.ended → new.failed ≡ false
    → is_ready old ≡ true → TakesLine old new
takes_line old new buffer start end size kept was le within is line fits shown rest at number ended failed ready =
    let p : List ℕ = old.pending in
    let n : ℕ = line_length p in
    let n-le : n ≤ length p = line_length-le p in
    let q : Parts p size = parts_of p old.at size is in
    let raw-len : length (take n p) ≡ n = length-take-le n p n-le in
    let p-len : length p ≡ end - start = ap length (sym was) ∙ length-take-le (end - start) (drop start buffer) (omega (arith, length-drop start buffer)) in
    let split : length p ≡ length (spelled (take n p) q.closed) + length (drop size p) =
    ap length q.parts ∙ length-append (spelled (take n p) q.closed) (drop size p) in
    let size-le : start + size ≤ end = omega (arith, q.sized) in
    let kept-le : start + kept ≤ end = omega arith in
    let kept-n : kept ≤ n = omega arith in
    record {
      raw = take n p;
      closed = q.closed;
      plain = take_line-plain p;
      short = omega (arith, cut-short old.at n (length p) size n-le is);
      within = omega (arith, q.sized, cut-within old.at n (length p) size n-le is);
      some = omega (arith, q.sized, cut-some old.at n (length p) size is);
      at = omega (arith, q.sized);
      line = shown ∙ window_front buffer start end kept kept-le ∙ ap (take kept) was ∙ sym (take-take kept n p kept-n) ∙ line;
      number = number;
      pending = q.parts ∙ ap (λ (z : List ℕ). spelled (take n p) q.closed ++ z) (sym (rest ∙ window_after buffer start end size size-le ∙ ap (drop size) was));
      last = λ e. (rest ∙ window_after buffer start end size size-le ∙ ap (drop size) was ∙ q.last e, open_at_end old.at n (length p) size old.ended is (q.all e) ready);
      ended = ended;
      failed = failed;
    }
