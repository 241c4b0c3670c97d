use Rattle.layout_bounds.proofs.StateLengths.{state_lengths}
use Rattle.layout_bounds.proofs.ListLengths.{list_lengths}
use Rattle.layout_bounds.proofs.procedure_costs.lengths_of_procedures.Goals as goal

pub returns-clause-states : goal.returns-clause-states
returns-clause-states x c N valid = state_lengths c valid N

pub returns-clause-lists : goal.returns-clause-lists
returns-clause-lists x = list_lengths
