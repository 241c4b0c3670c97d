use Rattle.chart_code.proofs.Whole.{compiled, lists_compiled}
use Rattle.chart_code.proofs.layout_laws.each_procedure_stands_at_its_number.Goals as goal

pub returns-clause-states : goal.returns-clause-states
returns-clause-states x c valid = compiled c valid

pub returns-clause-lists : goal.returns-clause-lists
returns-clause-lists x c valid = lists_compiled c valid
