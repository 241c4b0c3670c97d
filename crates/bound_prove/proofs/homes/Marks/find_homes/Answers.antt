use Rattle.std.proofs.Common.{refl, sym, subst, ◌∙◌}
use Rattle.std.specs.List.{AllByRecursion}
use Rattle.bound_prove.specs.Homes.{IsFollowed, IsPart}
use Rattle.bound_prove.specs.Lookups.{chart_in}
use Rattle.bound_prove.proofs.HomeLemmas.{walk_begins, walk_goes_on, walk_ends, next_junction, pop_falls}
use Rattle.bound_prove.proofs.HomeLemmas.{popped_none}
use Rattle.bound_prove.proofs.homes.Marks.find_homes.Goals as goal

pub loop-j-init : goal.loop-j-init
loop-j-init c =
    let look = c.args.look.now in
    walk_begins (chart_in look) look.cell.event c.args.s c.args.kind c.begin.new.self c.follow.new.self
    c.in_ok-begin.ensures c.in_ok-follow.ensures.goes_on
    (subst (AllByRecursion (IsFollowed (chart_in look) look.cell.event c.args.s c.args.kind c.follow.new.self))
    c.list.ensures.list c.in_ok-follow.ensures.followed)

pub junction-requires : goal.junction-requires
junction-requires c =
    let look = c.args.look.now in
    (next_junction (chart_in look) look.cell.event c.args.s c.args.kind c.loop-j.self _ c.in-Some.j c.loop-j.invariant
    c.in-Some.ensures.items).within

pub loop-j-preserved : goal.loop-j-preserved
loop-j-preserved c =
    let look = c.args.look.now in
    walk_goes_on (chart_in look) look.cell.event c.args.s c.args.kind c.loop-j.self
    (record c.loop-j.self { todo = c.pop.new.self }) c.follow-in-Some.new.self c.in-Some.j c.loop-j.invariant
    c.in-Some.ensures.items refl refl refl c.in_ok-follow-2.ensures.goes_on
    (subst (AllByRecursion (IsFollowed (chart_in look) look.cell.event c.args.s c.args.kind c.follow-in-Some.new.self))
    c.junction.ensures.list c.in_ok-follow-2.ensures.followed)

pub loop-j-smaller : goal.loop-j-smaller
loop-j-smaller c =
    let look = c.args.look.now in
    pop_falls (chart_in look) look.cell.event c.args.s c.args.kind c.loop-j.self
    (record c.loop-j.self { todo = c.pop.new.self }) c.follow-in-Some.new.self c.in-Some.j c.in-Some.ensures.items refl
    refl c.in_ok-follow-2.ensures.goes_on

pub follow-requires-clause-part : goal.follow-requires-clause-part
follow-requires-clause-part c =
    let look = c.args.look.now in
    subst (IsPart (chart_in look) look.cell.event c.args.s c.args.kind) (sym c.list.ensures.list) (λ d r. r)

pub follow-requires-clause-sized : goal.follow-requires-clause-sized
follow-requires-clause-sized c = c.in_ok-begin.ensures.sized

pub follow-requires-in-Some-clause-part : goal.follow-requires-in-Some-clause-part
follow-requires-in-Some-clause-part c =
    let look = c.args.look.now in
    subst (IsPart (chart_in look) look.cell.event c.args.s c.args.kind) (sym c.junction.ensures.list)
    (next_junction (chart_in look) look.cell.event c.args.s c.args.kind c.loop-j.self _ c.in-Some.j c.loop-j.invariant
    c.in-Some.ensures.items).part

pub follow-requires-in-Some-clause-sized : goal.follow-requires-in-Some-clause-sized
follow-requires-in-Some-clause-sized c = c.loop-j.invariant.sized

pub returns-clause-homes : goal.returns-clause-homes
returns-clause-homes c =
    let look = c.args.look.now in
    walk_ends (chart_in look) look.cell.event c.args.s c.args.kind c.loop-j.self c.loop-j.invariant
    (popped_none c.loop-j.self.todo.items (sym c.loop-j.self.todo.ok.0 ∙ c.in_default.ensures.cases.0))

pub returns-clause-marks : goal.returns-clause-marks
returns-clause-marks c = record { sized = c.loop-j.invariant.sized; below = c.loop-j.invariant.below }
