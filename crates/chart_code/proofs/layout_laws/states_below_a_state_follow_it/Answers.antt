use Rattle.chart_code.proofs.EndsLemmas.{end_is, end_only}
use Rattle.chart_code.proofs.layout_laws.states_below_a_state_follow_it.Goals as goal

pub returns-clause-end : goal.returns-clause-end
returns-clause-end x t s tree lt = end_is t tree s lt

pub returns-clause-only : goal.returns-clause-only
returns-clause-only x t s e tree lt end = end_only t tree s e lt end
