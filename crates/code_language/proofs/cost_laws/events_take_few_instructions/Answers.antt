use Rattle.code_language.proofs.EventLemmas.{start_ends, reaction_ends, step_falls, run_ends}
use Rattle.code_language.proofs.cost_laws.events_take_few_instructions.Goals as goal

pub returns-clause-start : goal.returns-clause-start
returns-clause-start c k b is = start_ends k b is

pub returns-clause-reaction : goal.returns-clause-reaction
returns-clause-reaction c k b w e is = reaction_ends k b is w e

pub returns-clause-step : goal.returns-clause-step
returns-clause-step c k b m is = step_falls k b is m

pub returns-clause-ends : goal.returns-clause-ends
returns-clause-ends c k b m n is lt = run_ends k b is m n lt
