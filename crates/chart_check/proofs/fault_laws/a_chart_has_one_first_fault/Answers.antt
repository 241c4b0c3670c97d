use Rattle.chart_check.proofs.FirstLemmas.{one_first, none_where_sound}
use Rattle.chart_check.proofs.fault_laws.a_chart_has_one_first_fault.Goals as goal

pub returns : goal.returns
returns c = record { one = one_first; none = none_where_sound }
