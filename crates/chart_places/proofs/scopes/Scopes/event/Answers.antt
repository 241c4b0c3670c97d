use Rattle.chart_places.proofs.ScopeLemmas.{event-seen, number_from-within}
use Rattle.chart_places.proofs.scopes.Scopes.event.Goals as goal

pub returns-clause-number : goal.returns-clause-number
returns-clause-number c =
    cc (event-seen c.self.inside.shape c.self.inside.states c.self.inside.junctions c.self.inside.events
    c.self.inside.vars c.self.invariant c.args.name.now.text)

pub returns-clause-within : goal.returns-clause-within
returns-clause-within c =
    number_from-within c.args.self.now.events c.args.name.now.text _ (returns-clause-number c)
