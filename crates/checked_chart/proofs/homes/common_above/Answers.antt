use Rattle.std.proofs.Common.{sym, ◌∙◌}
use Rattle.checked_chart.proofs.Walks.{climbs_first, climbs_found, climbs_next, climbs_none, below_is}
use Rattle.active_config.specs.Tree.{is_below}
use Rattle.checked_chart.proofs.homes.common_above.Goals as goal

pub loop-next-init : goal.loop-next-init
loop-next-init c =
    climbs_first c.args.shape.now c.requires.tree c.args.state (is_below c.args.shape.now c.args.dest) _
    c.parent-next.ensures.parent

pub returns-then-is_below-clause-above : goal.returns-then-is_below-clause-above
returns-then-is_below-clause-above c =
    climbs_found c.args.shape.now c.requires.tree c.args.state (is_below c.args.shape.now c.args.dest) c.in-Some.above _
    c.in-Some.is c.loop-next.invariant (sym c.is_below.ensures ∙ c.if-is_below.true)
    ∙ below_is c.args.shape.now c.args.state c.args.dest

pub loop-next-preserved : goal.loop-next-preserved
loop-next-preserved c =
    climbs_next c.args.shape.now c.requires.tree c.args.state (is_below c.args.shape.now c.args.dest) c.in-Some.above _
    _ c.in-Some.is c.loop-next.invariant (sym c.is_below.ensures ∙ c.if-is_below.false)
    c.parent-next-in-Some.ensures.parent

pub returns-clause-above : goal.returns-clause-above
returns-clause-above c =
    climbs_none c.args.shape.now c.requires.tree c.args.state (is_below c.args.shape.now c.args.dest) _ c.in_default.is
    c.loop-next.invariant
    ∙ below_is c.args.shape.now c.args.state c.args.dest
