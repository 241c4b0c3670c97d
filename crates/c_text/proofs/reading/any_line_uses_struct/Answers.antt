use Rattle.std.proofs.Common.{arith}
use Rattle.c_subset.specs.Lines.{line_of}
use Rattle.c_text.specs.Functions.{line_uses_struct}
use Rattle.c_text.specs.Labels.{labels_of}
use Rattle.c_text.proofs.LoopLemmas.{seen_decides, seen_passes, none_seen}
use Rattle.c_text.proofs.reading.any_line_uses_struct.Goals as goal

pub returns-then-line_uses_struct : goal.returns-then-line_uses_struct
returns-then-line_uses_struct c =
    seen_decides (line_uses_struct (labels_of c.args.labels.now)) line_of
    c.args.lines.now c.loop-line.line-index
    c.line-item.result _ _ (omega arith) c.line-item.is c.line_uses_struct.ensures
    c.if-line_uses_struct.true c.loop-line.invariant

pub loop-line-preserved : goal.loop-line-preserved
loop-line-preserved c =
    seen_passes (line_uses_struct (labels_of c.args.labels.now)) line_of
    c.args.lines.now c.loop-line.line-index
    c.line-item.result _ _ (omega arith) c.line-item.is c.line_uses_struct.ensures
    c.if-line_uses_struct.false c.loop-line.invariant

pub returns : goal.returns
returns c =
    none_seen (line_uses_struct (labels_of c.args.labels.now)) line_of
    c.args.lines.now c.loop-line.line-index _ (omega arith)
    c.loop-line.invariant
