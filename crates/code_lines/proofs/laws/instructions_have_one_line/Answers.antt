use Rattle.code_lines.proofs.InstrLemmas.{instr_in-line, instr_in-some}
use Rattle.code_lines.proofs.laws.instructions_have_one_line.Goals as goal

pub returns-clause-read : goal.returns-clause-read
returns-clause-read c = instr_in-line

pub returns-clause-spelled : goal.returns-clause-spelled
returns-clause-spelled c = instr_in-some
