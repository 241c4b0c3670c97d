use Rattle.layout_bounds.proofs.StateHeights.{state_heights}
use Rattle.layout_bounds.proofs.ListHeights.{list_heights}
use Rattle.layout_bounds.proofs.procedure_costs.heights_of_procedures.Goals as goal

pub returns-clause-states : goal.returns-clause-states
returns-clause-states x c N h valid = state_heights c valid N h

pub returns-clause-lists : goal.returns-clause-lists
returns-clause-lists x h = list_heights h
