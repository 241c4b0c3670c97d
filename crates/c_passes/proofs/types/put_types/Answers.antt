use Rattle.std.proofs.Common.{◌∙◌}
use Rattle.c_passes.proofs.TypeLemmas.{one_less_left, none_left}
use Rattle.c_passes.proofs.types.put_types.Goals as goal

pub loop-preserved : goal.loop-preserved
loop-preserved c =
    one_less_left c.loop.types.items c.push.new.self.items c.args.kind c.loop.counter c.args.count c.loop-test.true
    c.in_ok-push.ensures.items
    ∙ c.loop.invariant

pub returns : goal.returns
returns c =
    none_left c.loop.types.items _ c.args.kind c.loop.counter c.args.count c.loop-test.false c.loop.invariant
