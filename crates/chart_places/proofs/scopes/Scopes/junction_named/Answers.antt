use Rattle.chart_places.proofs.ScopeLemmas.{junction_named-seen}
use Rattle.chart_places.proofs.scopes.Scopes.junction_named.Goals as goal

pub returns : goal.returns
returns c =
    cc (junction_named-seen c.self.inside.shape c.self.inside.states c.self.inside.junctions c.self.inside.events
    c.self.inside.vars c.self.invariant c.args.state c.args.name.now.text)
