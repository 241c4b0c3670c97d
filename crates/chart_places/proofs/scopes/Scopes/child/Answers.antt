use Rattle.chart_places.proofs.ScopeLemmas.{child_named-seen}
use Rattle.chart_places.proofs.scopes.Scopes.child.Goals as goal

pub returns : goal.returns
returns c =
    cc (child_named-seen c.self.inside.shape c.self.inside.states c.self.inside.junctions c.self.inside.events
    c.self.inside.vars c.self.invariant c.args.state c.args.name.now.text)
