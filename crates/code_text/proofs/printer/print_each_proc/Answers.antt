use Rattle.std.proofs.Common.{arith}
use Rattle.std.specs.List.{AllByRecursion}
use Rattle.flow_base.specs.Lists.{items_of}
use Rattle.code_language.specs.Code.{instrs_of}
use Rattle.code_lines.specs.Spelling.{HasNumbers}
use Rattle.code_text.specs.Spelling.{proc_lines}
use Rattle.code_text.proofs.LoopLemmas.{lines_printed, holds_from}
use Rattle.code_text.proofs.printer.print_each_proc.Goals as goal

pub loop-proc-preserved : goal.loop-proc-preserved
loop-proc-preserved c =
    record {
      text = lines_printed proc_lines (λ is. instrs_of (items_of is)) c.args.procs.now c.loop-proc.proc-index c.proc-item.result _ _ _ c.proc-item.is (omega arith)
          (rw c.items.ensures at c.in_ok-print_proc.ensures.text) c.loop-proc.invariant.text;
      numbers = holds_from (AllByRecursion HasNumbers) (λ is. instrs_of (items_of is)) c.args.procs.now c.loop-proc.proc-index c.proc-item.result c.proc-item.is (omega arith)
          (rw c.items.ensures at c.in_ok-print_proc.ensures.numbers) c.loop-proc.invariant.numbers;
    }
