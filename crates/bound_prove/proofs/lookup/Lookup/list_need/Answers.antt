use Rattle.std.proofs.Common.{refl, arith}
use Rattle.checked_chart.specs.Views.{trans_seen}
use Rattle.bound_prove.specs.Lookups.{MayLook}
use Rattle.bound_prove.specs.Uses.{TransUses}
use Rattle.bound_prove.proofs.Evaluations.{rest_seen, rest_none, first_has}
use Rattle.bound_prove.proofs.Pieces.{list_begins, list_goes_on, list_ends}
use Rattle.bound_prove.proofs.lookup.Lookup.list_need.Goals as goal

pub loop-t-init : goal.loop-t-init
loop-t-init c = list_begins c.args.self.now _ _ _ refl c.requires

pub fit_need-requires : goal.fit_need-requires
fit_need-requires c =
    first_has (TransUses (MayLook c.args.self.now) c.args.self.now.cell.event) _ _ _
    (rest_seen trans_seen c.args.list.now c.loop-t.t-index c.t-item.result (omega arith) c.t-item.is)
    c.loop-t.invariant.may

pub loop-t-preserved : goal.loop-t-preserved
loop-t-preserved c =
    list_goes_on c.args.self.now _ _ _ _ _ _ _ _ _ _ c.loop-t.invariant
    (rest_seen trans_seen c.args.list.now c.loop-t.t-index c.t-item.result (omega arith) c.t-item.is)
    c.in_ok-own.ensures c.then-need.ensures

pub returns : goal.returns
returns c =
    list_ends c.args.self.now _ _ _ _ _ c.loop-t.invariant
    (rest_none trans_seen c.args.list.now c.loop-t.t-index (omega arith))
