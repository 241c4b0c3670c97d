use Rattle.std.proofs.Common.{arith}
use Rattle.code_fields.specs.Spelling.{event_line}
use Rattle.code_text.proofs.LoopLemmas.{line_printed}
use Rattle.code_text.proofs.printer.print_each_event.Goals as goal

pub loop-event-preserved : goal.loop-event-preserved
loop-event-preserved c =
    line_printed event_line c.args.events.now c.loop-event.event-index c.event-item.result _ _ _ c.event-item.is (omega arith) c.in_ok-print_event.ensures c.loop-event.invariant
