use Rattle.std.proofs.Common.{ap}
use Rattle.checked_chart.specs.Views.{block_seen, trans_seen}
use Rattle.bound_prove.proofs.Pieces.{trans_evaluated}
use Rattle.bound_prove.proofs.lookup.Lookup.trans_need.Goals as goal

pub returns : goal.returns
returns c =
    trans_evaluated c.args.self.now (trans_seen c.args.t.now) _ _ _ _ _ _ _ _ _ _ _ (ap block_seen c.items.ensures)
    (ap block_seen c.items-2.ensures) c.in_ok-condition.ensures c.in_ok-action.ensures c.in_ok-dest.ensures
    c.then-rest.ensures c.then.ensures
