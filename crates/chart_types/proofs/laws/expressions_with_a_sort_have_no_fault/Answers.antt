use Rattle.chart_types.proofs.SortLemmas.{faultless}
use Rattle.chart_types.proofs.laws.expressions_with_a_sort_have_no_fault.Goals as goal

pub returns : goal.returns
returns c = faultless
