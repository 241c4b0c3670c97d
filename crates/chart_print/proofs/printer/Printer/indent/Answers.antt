use Rattle.std.proofs.Common.{◌-◌, sym, ◌∙◌, arith}
use Rattle.chart_print.proofs.Written.{written-indent_none, indent_step}
use Rattle.chart_print.proofs.printer.Printer.indent.Goals as goal

pub loop-preserved : goal.loop-preserved
loop-preserved c =
    indent_step c.args.self.now c.loop.self c.bytes.new.self c.args.level c.loop.counter c.loop-test.true c.in_ok-bytes.ensures c.loop.invariant

pub returns : goal.returns
returns c = sym (written-indent_none c.loop.self (c.args.level - c.loop.counter) (omega arith)) ∙ c.loop.invariant
