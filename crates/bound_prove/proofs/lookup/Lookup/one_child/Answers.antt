use Rattle.std.proofs.Common.{refl, sym, ap, ◌∙◌}
use Rattle.active_config.proofs.SiblingLemmas.{children_of-from}
use Rattle.active_config.specs.Tree.{children_from, next_sibling}
use Rattle.checked_chart.proofs.Walks.{stands_first, stands_next, from_some, from_none, ahead_falls}
use Rattle.bound_prove.specs.Lookups.{MayLook, chart_in}
use Rattle.bound_prove.proofs.Evaluations.{first_has}
use Rattle.bound_prove.proofs.Pieces.{one_begins, one_goes_on, one_ends}
use Rattle.bound_prove.proofs.lookup.Lookup.one_child.Goals as goal

pub loop-next-init : goal.loop-next-init
loop-next-init c =
    let t = (chart_in c.args.self.now).tree in
    let first = c.first_child-next.ensures in
    record {
      so_far =
          one_begins c.args.self.now c.args.part _ _ _
          (children_of-from t c.args.s ∙ ap (children_from t c.args.s) (sym first.child)) c.requires.may;
      stands = stands_first t first.tree c.args.s _ first.child;
    }

pub look-requires : goal.look-requires
look-requires c =
    let t = (chart_in c.args.self.now).tree in
    let h = c.loop-next.invariant in
    first_has (MayLook c.args.self.now c.args.self.now.cell.event c.args.part) _ _ _
    (from_some t c.args.s c.in-Some.x _ (next_sibling t c.in-Some.x) c.in-Some.is h.stands refl) h.so_far.may

pub next_sibling-next-requires : goal.next_sibling-next-requires
next_sibling-next-requires c = (c.loop-next.invariant.stands.child c.in-Some.x c.in-Some.is).within

pub loop-next-preserved : goal.loop-next-preserved
loop-next-preserved c =
    let t = (chart_in c.args.self.now).tree in
    let h = c.loop-next.invariant in
    let next = c.next_sibling-next.ensures in
    record {
      so_far =
          one_goes_on c.args.self.now c.args.part _ _ _ _ _ _ _ _ _ _ h.so_far
          (from_some t c.args.s c.in-Some.x _ _ c.in-Some.is h.stands next.sibling) c.in_ok-own.ensures
          c.or-need.ensures;
      stands = stands_next t next.tree c.args.s c.in-Some.x _ _ c.in-Some.is h.stands next.sibling;
    }

pub loop-next-smaller : goal.loop-next-smaller
loop-next-smaller c =
    let h = c.loop-next.invariant in
    ahead_falls (chart_in c.args.self.now).tree c.in-Some.x _ _ c.in-Some.is
    (h.stands.child c.in-Some.x c.in-Some.is).within c.next_sibling-next.ensures.after

pub returns : goal.returns
returns c =
    let h = c.loop-next.invariant in
    one_ends c.args.self.now c.args.part _ _ _ _ _ h.so_far
    (from_none (chart_in c.args.self.now).tree c.args.s _ c.in_default.is)
