use Rattle.std.proofs.Common.{sym, ◌∙◌, arith}
use Rattle.std.specs.List.{list_any}
use Rattle.c_subset.specs.Lines.{lines_in}
use Rattle.c_text.proofs.LoopLemmas.{to_come}
use Rattle.c_file.proofs.AskLemmas.{decides, passes, none_left}
use Rattle.c_file.specs.Uses.{is_wide_line}
use Rattle.c_file.proofs.uses.are_wide.Goals as goal

pub returns-then-is_wide_line : goal.returns-then-is_wide_line
returns-then-is_wide_line c =
    decides _ _ _ _
    (to_come (λ ys. list_any is_wide_line (lines_in ys)) c.args.lines.now c.loop-line.line-index
    c.line-item.result (omega arith) c.line-item.is)
    (sym c.is_wide_line.ensures ∙ c.if-is_wide_line.true) c.loop-line.invariant

pub loop-line-preserved : goal.loop-line-preserved
loop-line-preserved c =
    passes _ _ _ _
    (to_come (λ ys. list_any is_wide_line (lines_in ys)) c.args.lines.now c.loop-line.line-index
    c.line-item.result (omega arith) c.line-item.is)
    (sym c.is_wide_line.ensures ∙ c.if-is_wide_line.false) c.loop-line.invariant

pub returns : goal.returns
returns c =
    none_left (λ ys. list_any is_wide_line (lines_in ys)) c.args.lines.now c.loop-line.line-index _
    (omega arith) c.loop-line.invariant
