use Rattle.chart_code.proofs.ReachedLemmas.{are_reached}
use Rattle.chart_code.proofs.layout_laws.reached_junctions_are_listed.Goals as goal

pub returns : goal.returns
returns x c list valid are = are_reached c valid list are
