use Rattle.std.proofs.Common.{arith}
use Rattle.c_subset.specs.Lines.{expr_of}
use Rattle.c_text.specs.Functions.{reads_struct}
use Rattle.c_text.proofs.LoopLemmas.{seen_decides, seen_passes, none_seen}
use Rattle.c_text.proofs.reading.any_reads_struct.Goals as goal

pub returns-then-reads_struct : goal.returns-then-reads_struct
returns-then-reads_struct c =
    seen_decides reads_struct expr_of c.args.exprs.now c.loop-expr.expr-index
    c.expr-item.result _ _ (omega arith) c.expr-item.is c.reads_struct.ensures
    c.if-reads_struct.true c.loop-expr.invariant

pub loop-expr-preserved : goal.loop-expr-preserved
loop-expr-preserved c =
    seen_passes reads_struct expr_of c.args.exprs.now c.loop-expr.expr-index
    c.expr-item.result _ _ (omega arith) c.expr-item.is c.reads_struct.ensures
    c.if-reads_struct.false c.loop-expr.invariant

pub returns : goal.returns
returns c = none_seen reads_struct expr_of c.args.exprs.now c.loop-expr.expr-index _ (omega arith)
    c.loop-expr.invariant
