use Rattle.accepted_charts.proofs.PromiseLemmas.{is_small_text}
use Rattle.accepted_charts.proofs.promise_laws.chart_texts_are_small.Goals as goal

pub returns-clause-states : goal.returns-clause-states
returns-clause-states c x is = (is_small_text x is).states

pub returns-clause-junctions : goal.returns-clause-junctions
returns-clause-junctions c x is = (is_small_text x is).junctions

pub returns-clause-events : goal.returns-clause-events
returns-clause-events c x is = (is_small_text x is).events

pub returns-clause-vars : goal.returns-clause-vars
returns-clause-vars c x is = (is_small_text x is).vars
