use Rattle.chart_types.proofs.SortLemmas.{literal_sorted}
use Rattle.chart_types.proofs.laws.literals_in_range_have_sorts.Goals as goal

pub returns : goal.returns
returns c = literal_sorted
