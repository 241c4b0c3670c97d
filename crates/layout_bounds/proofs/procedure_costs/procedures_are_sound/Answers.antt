use Rattle.layout_bounds.proofs.SoundStates.{sound_states}
use Rattle.layout_bounds.proofs.SoundLists.{sound_lists}
use Rattle.layout_bounds.proofs.procedure_costs.procedures_are_sound.Goals as goal

pub returns-clause-states : goal.returns-clause-states
returns-clause-states x c N n p valid there = sound_states c valid N n p there

pub returns-clause-lists : goal.returns-clause-lists
returns-clause-lists x c n p valid there = sound_lists c valid n p there
