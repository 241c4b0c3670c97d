use Rattle.std.proofs.Common.{arith, ◌∙◌}
use Rattle.checked_chart.specs.Valid.{IsTrans}
use Rattle.checked_chart.specs.Views.{list_seen, trans_seen}
use Rattle.bound_prove.specs.Lookups.{chart_in}
use Rattle.bound_prove.proofs.Evaluations.{rest_seen, rest_none}
use Rattle.bound_prove.proofs.HomeLemmas.{contains_has, contains_seen, part_may}
use Rattle.bound_prove.proofs.HomeLemmas.{follow_begins, follow_goes_on, follow_ends}
use Rattle.bound_prove.proofs.homes.Marks.follow.Goals as goal

pub loop-t-init : goal.loop-t-init
loop-t-init c = follow_begins (chart_in c.args.look.now) c.args.look.now.cell.event c.args.s c.args.kind _ _

pub follow_one-requires-clause-sized : goal.follow_one-requires-clause-sized
follow_one-requires-clause-sized c = c.loop-t.invariant.goes_on.sized ∙ c.requires.sized

pub follow_one-requires-clause-trans : goal.follow_one-requires-clause-trans
follow_one-requires-clause-trans c =
    contains_has (IsTrans (chart_in c.args.look.now)) (list_seen c.args.list.now) (trans_seen c.t-item.result)
    (contains_seen trans_seen c.args.list.now c.loop-t.t-index c.t-item.result (omega arith) c.t-item.is)
    c.requires.trans

pub follow_one-requires-clause-may : goal.follow_one-requires-clause-may
follow_one-requires-clause-may c =
    part_may (chart_in c.args.look.now) c.args.look.now.cell.event c.args.s c.args.kind (list_seen c.args.list.now)
    (trans_seen c.t-item.result) c.requires.part
    (contains_seen trans_seen c.args.list.now c.loop-t.t-index c.t-item.result (omega arith) c.t-item.is)

pub loop-t-preserved : goal.loop-t-preserved
loop-t-preserved c =
    follow_goes_on (chart_in c.args.look.now) c.args.look.now.cell.event c.args.s c.args.kind _ _ _ _ _ _ _
    c.loop-t.invariant
    (rest_seen trans_seen c.args.list.now c.loop-t.t-index c.t-item.result (omega arith) c.t-item.is)
    c.in_ok-follow_one.ensures.goes_on c.in_ok-follow_one.ensures.followed

pub returns-clause-goes_on : goal.returns-clause-goes_on
returns-clause-goes_on c = c.loop-t.invariant.goes_on

pub returns-clause-followed : goal.returns-clause-followed
returns-clause-followed c =
    follow_ends (chart_in c.args.look.now) c.args.look.now.cell.event c.args.s c.args.kind _ _ _ _ c.loop-t.invariant
    (rest_none trans_seen c.args.list.now c.loop-t.t-index (omega arith))
