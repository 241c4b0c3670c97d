use Rattle.std.proofs.Common.{refl, arith}
use Rattle.c_subset.specs.Lines.{lines_in, line_of}
use Rattle.c_text.specs.Labels.{labels_of}
use Rattle.c_text.specs.Statements.{lines_text}
use Rattle.c_text.proofs.LoopLemmas.{more_printed, all_printed, to_come}
use Rattle.c_text.proofs.DepthLemmas.{one_deeper}
use Rattle.c_text.proofs.statements.print_lines.Goals as goal

pub loop-line-preserved : goal.loop-line-preserved
loop-line-preserved c = record {
  text = rw c.depth_after-depth.ensures
      (more_printed _ _ _ _ _ _
      (to_come (λ ys. lines_text (labels_of c.args.labels.now) c.args.kind (lines_in c.args.lines.now)
      c.args.result_type c.loop-line.depth (lines_in ys)) c.args.lines.now c.loop-line.line-index c.line-item.result (omega arith) c.line-item.is)
      c.in_ok-print_line.ensures c.loop-line.invariant.text);
  deep = omega (arith, c.depth_after-depth.ensures, one_deeper c.loop-line.depth (line_of c.line-item.result));
}

pub returns : goal.returns
returns c =
    all_printed (λ ys. lines_text (labels_of c.args.labels.now) c.args.kind (lines_in c.args.lines.now)
    c.args.result_type c.loop-line.depth (lines_in ys)) c.args.lines.now c.loop-line.line-index _ _ (omega arith) refl c.loop-line.invariant.text
