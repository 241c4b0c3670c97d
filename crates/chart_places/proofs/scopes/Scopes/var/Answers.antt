use Rattle.chart_places.proofs.ScopeLemmas.{var-seen, number_from-within}
use Rattle.chart_places.proofs.scopes.Scopes.var.Goals as goal

pub returns-clause-number : goal.returns-clause-number
returns-clause-number c =
    cc (var-seen c.self.inside.shape c.self.inside.states c.self.inside.junctions c.self.inside.events
    c.self.inside.vars c.self.invariant c.args.name.now.text)

pub returns-clause-within : goal.returns-clause-within
returns-clause-within c =
    number_from-within c.args.self.now.vars c.args.name.now.text _ (returns-clause-number c)
