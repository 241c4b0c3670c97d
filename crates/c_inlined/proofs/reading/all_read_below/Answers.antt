use Rattle.std.proofs.Common.{sym, ◌∙◌, arith}
use Rattle.c_subset.specs.Lines.{exprs_of}
use Rattle.c_bare.proofs.Loops.{to-come, refutes, stands, none-left}
use Rattle.c_inlined.specs.Inlined.{all_read_below}
use Rattle.c_inlined.proofs.reading.all_read_below.Goals as goal

pub returns-then-not-reads_below : goal.returns-then-not-reads_below
returns-then-not-reads_below c =
    refutes _ _ _ _
    (to-come (λ ys. all_read_below c.args.base (exprs_of ys)) c.args.exprs.now c.loop-expr.expr-index
    c.expr-item.result (omega arith) c.expr-item.is)
    (sym c.reads_below.ensures ∙ c.if-not-reads_below.true) c.loop-expr.invariant

pub loop-expr-preserved : goal.loop-expr-preserved
loop-expr-preserved c =
    stands _ _ _ _
    (to-come (λ ys. all_read_below c.args.base (exprs_of ys)) c.args.exprs.now c.loop-expr.expr-index
    c.expr-item.result (omega arith) c.expr-item.is)
    (sym c.reads_below.ensures ∙ c.if-not-reads_below.false) c.loop-expr.invariant

pub returns : goal.returns
returns c =
    none-left (λ ys. all_read_below c.args.base (exprs_of ys)) c.args.exprs.now c.loop-expr.expr-index _
    (omega arith) c.loop-expr.invariant
