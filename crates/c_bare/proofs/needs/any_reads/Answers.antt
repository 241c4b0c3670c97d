use Rattle.std.proofs.Common.{sym, ◌∙◌, arith}
use Rattle.c_subset.specs.Lines.{exprs_of}
use Rattle.c_bare.specs.Needs.{any_reads}
use Rattle.c_bare.proofs.Loops.{to-come, decides, passes, none-left}
use Rattle.c_bare.proofs.needs.any_reads.Goals as goal

pub returns-then-reads : goal.returns-then-reads
returns-then-reads c =
    decides _ _ _ _
    (to-come (λ ys. any_reads c.args.of c.args.local (exprs_of ys)) c.args.exprs.now c.loop-expr.expr-index
    c.expr-item.result (omega arith) c.expr-item.is)
    (sym c.reads.ensures ∙ c.if-reads.true) c.loop-expr.invariant

pub loop-expr-preserved : goal.loop-expr-preserved
loop-expr-preserved c =
    passes _ _ _ _
    (to-come (λ ys. any_reads c.args.of c.args.local (exprs_of ys)) c.args.exprs.now c.loop-expr.expr-index
    c.expr-item.result (omega arith) c.expr-item.is)
    (sym c.reads.ensures ∙ c.if-reads.false) c.loop-expr.invariant

pub returns : goal.returns
returns c =
    none-left (λ ys. any_reads c.args.of c.args.local (exprs_of ys)) c.args.exprs.now c.loop-expr.expr-index _
    (omega arith) c.loop-expr.invariant
