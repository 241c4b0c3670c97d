use Rattle.chart_code.proofs.Whole.{code_runs}
use Rattle.chart_code.proofs.layout_laws.the_code_of_a_chart_runs_as_the_rules.Goals as goal

pub returns : goal.returns
returns x c valid b events moments = code_runs c valid b events moments
