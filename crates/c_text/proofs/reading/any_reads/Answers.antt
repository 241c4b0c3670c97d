use Rattle.std.proofs.Common.{arith}
use Rattle.c_subset.specs.Lines.{expr_of}
use Rattle.c_text.specs.Reading.{reads}
use Rattle.c_text.proofs.LoopLemmas.{seen_decides, seen_passes, none_seen}
use Rattle.c_text.proofs.reading.any_reads.Goals as goal

pub returns-then-reads : goal.returns-then-reads
returns-then-reads c =
    seen_decides (reads c.args.local) expr_of c.args.exprs.now c.loop-expr.expr-index
    c.expr-item.result _ _ (omega arith) c.expr-item.is c.reads.ensures c.if-reads.true c.loop-expr.invariant

pub loop-expr-preserved : goal.loop-expr-preserved
loop-expr-preserved c =
    seen_passes (reads c.args.local) expr_of c.args.exprs.now c.loop-expr.expr-index
    c.expr-item.result _ _ (omega arith) c.expr-item.is c.reads.ensures c.if-reads.false c.loop-expr.invariant

pub returns : goal.returns
returns c = none_seen (reads c.args.local) expr_of c.args.exprs.now c.loop-expr.expr-index _ (omega arith)
    c.loop-expr.invariant
