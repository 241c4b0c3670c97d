use Rattle.std.proofs.Common.{refl, sym, ◌∙◌}
use Rattle.std.specs.Vec.{with_item}
use Rattle.bound_prove.specs.declared.homes.Marks.{Marks}
use Rattle.bound_prove.specs.Lookups.{chart_in}
use Rattle.bound_prove.proofs.HomeLemmas.{unchanged, now_marked, marks_junction, index_is}
use Rattle.bound_prove.proofs.homes.Marks.meet_junction.Goals as goal

pub returns-then-index-self : goal.returns-then-index-self
returns-then-index-self c =
    let read = index_is c.args.self.now.walks.items c.args.j _ c.requires.within c.index.ensures in
    record {
      goes_on = unchanged (chart_in c.args.look.now) c.args.look.now.cell.event c.args.s c.args.kind c.args.self.now;
      marked = sym read ∙ c.if-index-self.true;
    }

pub returns : goal.returns
returns c =
    let old = c.args.self.now in
    let look = c.args.look.now in
    let new : Marks =
    record {
      walks = with_item old.walks c.args.j old.stamp;
      stamp = old.stamp;
      todo = c.push.new.self;
      homes = old.homes;
    } in
    let read = index_is old.walks.items c.args.j _ c.requires.within c.index.ensures in
    record {
      goes_on =
          marks_junction (chart_in look) look.cell.event c.args.s c.args.kind old new c.args.j c.requires.within
          (λ h. c.if-index-self.false (read ∙ h)) refl refl c.requires.right c.in_ok-push.ensures.items refl;
      marked =
          now_marked (chart_in look) look.cell.event c.args.s c.args.kind old new c.args.j c.requires.within
          (λ h. c.if-index-self.false (read ∙ h)) refl refl;
    }
