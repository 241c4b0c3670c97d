use Rattle.std.proofs.Common.{◌≡◌, length, sym, subst, arith}
use Rattle.std.proofs.lemmas.List.{with_items_is}
use Rattle.code_shrink.specs.Whole.{AreReached}
use Rattle.code_shrink.proofs.places.reached_places.Goals as goal

pub returns : goal.returns
returns c t same =
    let marked = c.mark_reached.new.flags in
    let size : length marked ≡ c.in_ok-flags.flags.len = omega (arith, c.deref_mut.ensures.len) in
    subst (λ fs. AreReached t fs) (sym (with_items_is c.in_ok-flags.flags marked size)) (c.mark_reached.ensures t same)
