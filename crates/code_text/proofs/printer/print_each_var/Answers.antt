use Rattle.std.proofs.Common.{arith}
use Rattle.code_fields.specs.Spelling.{var_line}
use Rattle.code_text.proofs.LoopLemmas.{line_printed}
use Rattle.code_text.proofs.printer.print_each_var.Goals as goal

pub loop-var-preserved : goal.loop-var-preserved
loop-var-preserved c =
    line_printed var_line c.args.vars.now c.loop-var.var-index c.var-item.result _ _ _ c.var-item.is (omega arith) c.in_ok-print_var.ensures c.loop-var.invariant
