use Rattle.chart_net.proofs.TakeLemmas.{item_set, no_target, no_value}
use Rattle.chart_net.proofs.seat.set_item.Goals as goal

pub returns-in-Some-item-clause-set : goal.returns-in-Some-item-clause-set
returns-in-Some-item-clause-set g c =
    item_set (g.G.Engine.declared (g.G.Engine.program c.args.engine.now)) c.args.target c.args.item c.in-Some.v
    c.in-Some-item.value
    (g.G.Engine.world c.args.engine.now) (g.G.Engine.world c.set_input.new.self) c.in-Some.is c.in-Some-item.is
    c.requires.item c.set_input.ensures.set

pub returns-in_default-item-clause-set : goal.returns-in_default-item-clause-set
returns-in_default-item-clause-set g c =
    no_value (g.G.Engine.declared (g.G.Engine.program c.args.engine.now)) c.args.target c.args.item
    (g.G.Engine.world c.args.engine.now)
    c.in_default-item.not-Some

pub returns-in_default-clause-set : goal.returns-in_default-clause-set
returns-in_default-clause-set g c =
    no_target (g.G.Engine.declared (g.G.Engine.program c.args.engine.now)) c.args.target c.args.item
    (g.G.Engine.world c.args.engine.now)
    c.in_default.not-Some
