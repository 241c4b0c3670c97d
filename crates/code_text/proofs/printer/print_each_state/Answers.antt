use Rattle.std.proofs.Common.{arith}
use Rattle.code_lines.specs.Spelling.{state_line}
use Rattle.code_text.specs.Spelling.{HasItsParent}
use Rattle.code_text.proofs.LoopLemmas.{line_printed, holds_from_item}
use Rattle.code_text.proofs.printer.print_each_state.Goals as goal

pub loop-state-preserved : goal.loop-state-preserved
loop-state-preserved c =
    record {
      text = line_printed state_line c.args.states.now c.loop-state.state-index c.state-item.result _ _ _ c.state-item.is (omega arith) c.in_ok-print_state.ensures.line c.loop-state.invariant.text;
      parents = holds_from_item HasItsParent c.args.states.now c.loop-state.state-index c.state-item.result
          c.state-item.is (omega arith) c.in_ok-print_state.ensures.number c.loop-state.invariant.parents;
    }
