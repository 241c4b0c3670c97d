use Rattle.layout_bounds.proofs.StateWorks.{state_works}
use Rattle.layout_bounds.proofs.ListWorks.{list_works}
use Rattle.layout_bounds.proofs.procedure_costs.works_of_procedures.Goals as goal

pub returns-clause-states : goal.returns-clause-states
returns-clause-states x c N w valid = state_works c valid N w

pub returns-clause-lists : goal.returns-clause-lists
returns-clause-lists x w = list_works w
