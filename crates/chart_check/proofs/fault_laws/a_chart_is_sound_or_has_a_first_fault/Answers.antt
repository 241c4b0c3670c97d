use Rattle.chart_check.proofs.FirstLemmas.{sound_or_faulty}
use Rattle.chart_check.proofs.fault_laws.a_chart_is_sound_or_has_a_first_fault.Goals as goal

pub returns : goal.returns
returns c = sound_or_faulty
