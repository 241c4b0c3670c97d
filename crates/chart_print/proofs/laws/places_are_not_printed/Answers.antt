use Rattle.chart_print.proofs.PlacesLemmas.{canonical-same, canonical-apart}
use Rattle.chart_print.proofs.laws.places_are_not_printed.Goals as goal

pub returns-clause-erased : goal.returns-clause-erased
returns-clause-erased c = canonical-same

pub returns-clause-same : goal.returns-clause-same
returns-clause-same c = canonical-apart
