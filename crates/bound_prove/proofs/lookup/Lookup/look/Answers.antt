use Rattle.bound_prove.proofs.Evaluations.{looked_done, looked_met}
use Rattle.bound_prove.proofs.lookup.Lookup.look.Goals as goal

pub returns-then-is_done : goal.returns-then-is_done
returns-then-is_done c =
    looked_done c.args.self.now _ c.args.event c.args.part c.args.index _ c.look-need.ensures
    (c.is_done.ensures.0 c.if-is_done.true)

pub returns : goal.returns
returns c =
    looked_met c.args.self.now _ _ c.args.event c.args.part c.args.index _ c.look-need.ensures c.requires
    (λ h. let t = c.is_done.ensures.1 h in absurd cc) c.in_ok-push.ensures.items
