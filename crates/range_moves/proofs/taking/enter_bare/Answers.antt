use Rattle.range_moves.proofs.TakeLemmas.{bare_entered}
use Rattle.range_moves.proofs.taking.enter_bare.Goals as goal

pub returns : goal.returns
returns c =
    bare_entered c.args.setting.now c.args.home c.args.target c.args.now _ _ _ _ _ c.in_ok-parts.ensures
    c.in_ok-inner.ensures c.in_ok-all.ensures
