use Rattle.layout_text.proofs.Lines.{instr_size}
use Rattle.layout_text.proofs.Tables.{state_size, var_size, event_size}
use Rattle.layout_text.proofs.line_lengths.lines_are_short.Goals as goal

pub returns-clause-instr : goal.returns-clause-instr
returns-clause-instr x = instr_size

pub returns-clause-state : goal.returns-clause-state
returns-clause-state x = state_size

pub returns-clause-datum : goal.returns-clause-datum
returns-clause-datum x = var_size

pub returns-clause-event : goal.returns-clause-event
returns-clause-event x = event_size
