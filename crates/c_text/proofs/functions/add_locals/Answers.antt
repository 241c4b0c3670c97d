use Rattle.std.proofs.Common.{◌+◌, drop, sym, ap, ◌∙◌, arith}
use Rattle.std.proofs.lemmas.List.{at_drop_all}
use Rattle.c_subset.specs.Lines.{lines_in}
use Rattle.c_text.specs.Functions.{with_local, with_locals}
use Rattle.c_text.proofs.LoopLemmas.{to_come}
use Rattle.c_text.proofs.functions.add_locals.Goals as goal

pub loop-line-preserved : goal.loop-line-preserved
loop-line-preserved c =
    ap (λ seen. with_locals (lines_in c.args.lines.now) seen (lines_in (drop (c.loop-line.line-index + 1) c.args.lines.now)))
    (c.in_ok-add_local.ensures ∙ ap (λ x. with_local c.loop-line.seen.items x) c.local_set.ensures)
    ∙ sym (to_come (λ ys. with_locals (lines_in c.args.lines.now) c.loop-line.seen.items (lines_in ys)) c.args.lines.now c.loop-line.line-index
    c.line-item.result (omega arith) c.line-item.is)
    ∙ c.loop-line.invariant

pub returns : goal.returns
returns c =
    sym (at_drop_all (λ ys. with_locals (lines_in c.args.lines.now) c.loop-line.seen.items (lines_in ys)) c.args.lines.now c.loop-line.line-index
    (omega arith))
    ∙ c.loop-line.invariant
