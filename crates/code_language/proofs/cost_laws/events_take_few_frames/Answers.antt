use Rattle.code_language.proofs.EventLemmas.{start_few, reaction_few, start_is_roomy, reaction_is_roomy, step_roomy}
use Rattle.code_language.proofs.EventLemmas.{frames_bounded}
use Rattle.code_language.proofs.cost_laws.events_take_few_frames.Goals as goal

pub returns-clause-start : goal.returns-clause-start
returns-clause-start c k b n is = start_few k b is n

pub returns-clause-reaction : goal.returns-clause-reaction
returns-clause-reaction c k b n w e is = reaction_few k b is n w e

pub returns-clause-start_roomy : goal.returns-clause-start_roomy
returns-clause-start_roomy c k b is = start_is_roomy k b is

pub returns-clause-reaction_roomy : goal.returns-clause-reaction_roomy
returns-clause-reaction_roomy c k b w e is = reaction_is_roomy k b is w e

pub returns-clause-step : goal.returns-clause-step
returns-clause-step c k b m is room = step_roomy k b is m room

pub returns-clause-few : goal.returns-clause-few
returns-clause-few c k b m is room = frames_bounded k b is m room
