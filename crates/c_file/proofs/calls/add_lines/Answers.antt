use Rattle.std.proofs.Common.{refl, arith}
use Rattle.c_subset.specs.Lines.{lines_in}
use Rattle.c_file.specs.Calls.{calls_in}
use Rattle.c_file.proofs.CallLemmas.{more_added, all_added, lines_next}
use Rattle.c_file.proofs.calls.add_lines.Goals as goal

pub loop-line-preserved : goal.loop-line-preserved
loop-line-preserved c =
    more_added _ _ _ _ _ _
    (lines_next c.args.caller c.args.lines.now c.loop-line.line-index c.line-item.result (omega arith) c.line-item.is)
    c.in_ok-add_line.ensures c.loop-line.invariant

pub returns : goal.returns
returns c =
    all_added (λ ys. calls_in c.args.caller (lines_in ys)) c.args.lines.now c.loop-line.line-index _ _ (omega arith)
    refl c.loop-line.invariant
