use Rattle.std.proofs.Common.{arith}
use Rattle.c_subset.specs.Lines.{line_of}
use Rattle.c_text.specs.Reading.{line_reads}
use Rattle.c_text.proofs.LoopLemmas.{seen_decides, seen_passes, none_seen}
use Rattle.c_text.proofs.reading.any_line_reads.Goals as goal

pub returns-then-line_reads : goal.returns-then-line_reads
returns-then-line_reads c =
    seen_decides (line_reads c.args.local) line_of c.args.lines.now c.loop-line.line-index
    c.line-item.result _ _ (omega arith) c.line-item.is c.line_reads.ensures c.if-line_reads.true c.loop-line.invariant

pub loop-line-preserved : goal.loop-line-preserved
loop-line-preserved c =
    seen_passes (line_reads c.args.local) line_of c.args.lines.now c.loop-line.line-index
    c.line-item.result _ _ (omega arith) c.line-item.is c.line_reads.ensures c.if-line_reads.false c.loop-line.invariant

pub returns : goal.returns
returns c = none_seen (line_reads c.args.local) line_of c.args.lines.now c.loop-line.line-index _ (omega arith)
    c.loop-line.invariant
