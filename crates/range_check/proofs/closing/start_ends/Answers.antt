use Rattle.range_check.proofs.CloseLemmas.{starts_at}
use Rattle.range_check.proofs.closing.start_ends.Goals as goal

pub returns : goal.returns
returns c =
    starts_at c.args.setting.now c.in_ok-x.x _ c.in_ok-xs.xs.items c.in_ok-ys.ys.items c.in_ok-x.ensures
    c.in_ok-xs.ensures c.in_ok-ys.ensures
