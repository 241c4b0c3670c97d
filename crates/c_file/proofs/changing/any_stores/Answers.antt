use Rattle.std.proofs.Common.{sym, ◌∙◌, arith}
use Rattle.std.specs.List.{list_any}
use Rattle.c_subset.specs.Lines.{lines_in}
use Rattle.c_text.proofs.LoopLemmas.{to_come}
use Rattle.c_file.proofs.AskLemmas.{decides, passes, none_left}
use Rattle.c_readers.specs.Readers.{line_stores}
use Rattle.c_file.proofs.changing.any_stores.Goals as goal

pub returns-then-line_stores : goal.returns-then-line_stores
returns-then-line_stores c =
    decides _ _ _ _
    (to_come (λ ys. list_any line_stores (lines_in ys)) c.args.lines.now c.loop-line.line-index
    c.line-item.result (omega arith) c.line-item.is)
    (sym c.line_stores.ensures ∙ c.if-line_stores.true) c.loop-line.invariant

pub loop-line-preserved : goal.loop-line-preserved
loop-line-preserved c =
    passes _ _ _ _
    (to_come (λ ys. list_any line_stores (lines_in ys)) c.args.lines.now c.loop-line.line-index
    c.line-item.result (omega arith) c.line-item.is)
    (sym c.line_stores.ensures ∙ c.if-line_stores.false) c.loop-line.invariant

pub returns : goal.returns
returns c =
    none_left (λ ys. list_any line_stores (lines_in ys)) c.args.lines.now c.loop-line.line-index _
    (omega arith) c.loop-line.invariant
