use Rattle.code_lines.proofs.StateLemmas.{state_at-line, state_at-some}
use Rattle.code_lines.proofs.laws.states_have_one_line.Goals as goal

pub returns-clause-read : goal.returns-clause-read
returns-clause-read c = state_at-line

pub returns-clause-spelled : goal.returns-clause-spelled
returns-clause-spelled c = state_at-some
