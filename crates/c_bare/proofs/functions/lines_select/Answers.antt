use Rattle.std.proofs.Common.{sym, ◌∙◌, arith}
use Rattle.std.specs.List.{list_all}
use Rattle.c_subset.specs.Lines.{lines_in}
use Rattle.c_bare.specs.Scanning.{line_selects}
use Rattle.c_bare.proofs.Loops.{to-come, refutes, stands, none-left}
use Rattle.c_bare.proofs.functions.lines_select.Goals as goal

pub returns-then-not-line_selects : goal.returns-then-not-line_selects
returns-then-not-line_selects c =
    refutes _ _ _ _
    (to-come (λ ys. list_all (line_selects c.args.flags.now) (lines_in ys)) c.args.lines.now c.loop-line.line-index
    c.line-item.result (omega arith) c.line-item.is)
    (sym c.line_selects.ensures ∙ c.if-not-line_selects.true) c.loop-line.invariant

pub loop-line-preserved : goal.loop-line-preserved
loop-line-preserved c =
    stands _ _ _ _
    (to-come (λ ys. list_all (line_selects c.args.flags.now) (lines_in ys)) c.args.lines.now c.loop-line.line-index
    c.line-item.result (omega arith) c.line-item.is)
    (sym c.line_selects.ensures ∙ c.if-not-line_selects.false) c.loop-line.invariant

pub returns : goal.returns
returns c =
    none-left (λ ys. list_all (line_selects c.args.flags.now) (lines_in ys)) c.args.lines.now c.loop-line.line-index _
    (omega arith) c.loop-line.invariant
