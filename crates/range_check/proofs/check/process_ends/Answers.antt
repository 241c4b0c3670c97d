use Rattle.range_check.proofs.CheckLemmas.{all_processed}
use Rattle.range_check.proofs.check.process_ends.Goals as goal

pub returns : goal.returns
returns c =
    all_processed c.args.setting.now c.args.x.now c.in_ok-same.same _ c.in_ok-xs.xs.items c.in_ok-ys.ys.items
    c.args.state c.args.now c.in_ok-processed.processed c.in_ok-same.ensures.0 c.in_ok-same.ensures.1
    c.in_ok-xs.ensures c.in_ok-processed.ensures c.in_ok-ys.ensures
