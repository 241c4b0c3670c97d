use Rattle.std.proofs.Common.{refl, sym, subst}
use Rattle.std.specs.Prelude.{Contains}
use Rattle.bound_prove.specs.Lookups.{chart_in}
use Rattle.bound_prove.proofs.Evaluations.{contains_last}
use Rattle.bound_prove.proofs.HomeLemmas.{unchanged, notes_home}
use Rattle.bound_prove.proofs.homes.Marks.meet_state.Goals as goal

pub returns-then-has : goal.returns-then-has
returns-then-has c =
    let known = c.has.ensures.0 c.if-has.true in
    record {
      goes_on = unchanged (chart_in c.args.look.now) c.args.look.now.cell.event c.args.s c.args.kind c.args.self.now;
      known = rw (← c.home-home.ensures.home) (rw (← c.deref.ensures.value) known);
    }

pub returns : goal.returns
returns c =
    let home = c.home-home.ensures.home in
    record {
      goes_on =
          notes_home (chart_in c.args.look.now) c.args.look.now.cell.event c.args.s c.args.kind c.args.self.now _
          c.home-home.result
          (record {
            dest = c.args.d;
            reached = c.requires.reached;
            home = sym c.home-home.ensures.home;
            within = c.home-home.ensures.within;
          })
          refl refl refl c.in_ok-push.ensures.items;
      known =
          subst (λ h. Contains c.push.new.self.items h) home
          (subst (λ z. Contains z c.home-home.result) (sym c.in_ok-push.ensures.items)
          (contains_last c.args.self.now.homes.items c.home-home.result));
    }
