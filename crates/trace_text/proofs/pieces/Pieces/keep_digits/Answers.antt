use Rattle.std.proofs.Common.{◌≡◌, ◌≤◌, ◌+◌, ℕ, List, ◌++◌, length, take, ap, ◌∙◌, arith}
use Rattle.std.specs.Prelude.{decimal}
use Rattle.trace_text.specs.Pieces.{Held, kept}
use Rattle.trace_text.proofs.PieceLemmas.{digits_kept}
use Rattle.trace_text.proofs.pieces.Pieces.keep_digits.Goals as goal

pub returns : goal.returns
returns c =
    let i = c.self.inside in
    let w = c.write_digits in
    let digits = decimal c.args.number in
    let within : i.len ≤ length i.buffer = omega arith in
    let start : w.result ≡ i.len = omega (arith, w.ensures.start, c.requires.count) in
    let bytes : take (i.len + c.args.count) w.new.buf ≡ take i.len i.buffer ++ digits =
    ap (λ (n : ℕ). take (i.len + n) w.new.buf) c.requires.count
    ∙ digits_kept i.buffer w.new.buf digits _ i.len w.result within start w.ensures.written w.ensures.before in
    ap (λ (z : List ℕ). record { bytes = z; failed = i.failed }) bytes ∙ ap (λ (h : Held). kept h digits) c.self.view_is
