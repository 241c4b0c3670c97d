use Rattle.std.proofs.Common.{refl, sym, subst, arith}
use Rattle.bound_prove.specs.Homes.{AreHomes}
use Rattle.bound_prove.specs.Lookups.{chart_in}
use Rattle.bound_prove.proofs.Sums.{drop_item, drop_none}
use Rattle.bound_prove.proofs.Evaluations.{first_has}
use Rattle.bound_prove.proofs.HomeLemmas.{read_is}
use Rattle.bound_prove.proofs.Pieces.{MayFire, homes_may, firings_begins, firings_goes_on, firings_ends}
use Rattle.bound_prove.proofs.lookup.Lookup.firings_need.Goals as goal

pub loop-home-init : goal.loop-home-init
loop-home-init c =
    let l = c.args.self.now in
    let are =
    subst (AreHomes (chart_in l) l.cell.event c.args.s c.args.kind) (sym c.deref-home-items.ensures.value)
    c.in_ok-find_homes.ensures.homes in
    record {
      so_far =
          firings_begins l _ c.deref-home-items.result.now _ refl
          (homes_may l c.args.s c.args.kind c.deref-home-items.result.now c.requires.may are.right);
      right = c.requires.firings;
    }

pub loop-home-preserved : goal.loop-home-preserved
loop-home-preserved c =
    let homes = c.deref-home-items.result.now in
    let h = c.loop-home.invariant in
    record {
      so_far =
          firings_goes_on c.args.self.now _ _ _ homes _ _ _ _ _ _ h.so_far
          (drop_item homes c.loop-home.home-index _ (omega arith) (read_is homes c.loop-home.home-index (omega arith)))
          c.in_ok-own.ensures.need c.or-need.ensures;
      right = c.in_ok-own.ensures.firings;
    }

pub firing_need-requires : goal.firing_need-requires
firing_need-requires c =
    let homes = c.deref-home-items.result.now in
    let h = c.loop-home.invariant in
    let own =
    first_has (MayFire c.args.self.now) _ _ _
    (drop_item homes c.loop-home.home-index _ (omega arith) (read_is homes c.loop-home.home-index (omega arith)))
    h.so_far.may in
    record { state = own.within; may = own.may; firings = h.right }

pub returns : goal.returns
returns c =
    let l = c.args.self.now in
    let homes = c.deref-home-items.result.now in
    let h = c.loop-home.invariant in
    record {
      need =
          record {
            homes = homes;
            are =
                subst (AreHomes (chart_in l) l.cell.event c.args.s c.args.kind) (sym c.deref-home-items.ensures.value)
                c.in_ok-find_homes.ensures.homes;
            evaluated =
                firings_ends l _ _ homes _ _ h.so_far (drop_none homes c.loop-home.home-index (omega arith));
          };
      marks = c.in_ok-find_homes.ensures.marks;
      firings = h.right;
    }
