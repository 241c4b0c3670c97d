use Rattle.checked_chart.proofs.Walks.{ahead_falls}
use Rattle.range_worlds.specs.Leads.{chart_in}
use Rattle.range_worlds.proofs.ConfigLemmas.{walks_first, walks_next, walks_last}
use Rattle.range_worlds.proofs.configs.children.Goals as goal

pub loop-next-init : goal.loop-next-init
loop-next-init c =
    walks_first (chart_in c.args.setting.now).tree c.first_child-next.ensures.tree c.args.state _ _
    c.new-all.ensures.items
    c.first_child-next.ensures.child

pub next_sibling-next-requires : goal.next_sibling-next-requires
next_sibling-next-requires c = (c.loop-next.invariant.stands.child c.in-Some.child c.in-Some.is).within

pub loop-next-smaller : goal.loop-next-smaller
loop-next-smaller c =
    ahead_falls (chart_in c.args.setting.now).tree c.in-Some.child _ _ c.in-Some.is
    (c.loop-next.invariant.stands.child c.in-Some.child c.in-Some.is).within c.next_sibling-next.ensures.after

pub loop-next-preserved : goal.loop-next-preserved
loop-next-preserved c =
    walks_next (chart_in c.args.setting.now).tree c.next_sibling-next.ensures.tree c.args.state c.in-Some.child _ _ _ _
    c.in-Some.is c.in_ok-all.ensures c.next_sibling-next.ensures.sibling c.loop-next.invariant

pub returns : goal.returns
returns c = walks_last (chart_in c.args.setting.now).tree c.args.state _ _ c.in_default.is c.loop-next.invariant
