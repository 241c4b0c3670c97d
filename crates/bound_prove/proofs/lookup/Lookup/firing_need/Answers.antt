use Rattle.std.proofs.Common.{◌≡◌, ◌==◌, true, sym, ap, subst, ◌∙◌, ◌++◌}
use Rattle.bound_prove.proofs.FiringLemmas.{from_nothing, kept_evaluated, apart_evaluated, empty_apart, keeps_right}
use Rattle.bound_prove.proofs.Pieces.{empty_is}
use Rattle.bound_prove.proofs.lookup.Lookup.firing_need.Goals as goal

pub returns-in-Some-clause-need : goal.returns-in-Some-clause-need
returns-in-Some-clause-need c =
    kept_evaluated c.args.self.now _ c.args.firings.now c.args.home c.in-Some.need c.requires.firings
    (sym c.in-Some.ensures)

pub returns-then-is_empty : goal.returns-then-is_empty
returns-then-is_empty c =
    let l = c.args.self.now in
    let own = from_nothing l _ _ _ _ _ c.new-own.ensures.items c.in_ok-need.ensures in
    let met = c.new_firing_need.new.met in
    let none =
    empty_is met.items (subst (λ n. (n == 0) ≡ true) met.ok.0 (sym c.is_empty.ensures ∙ c.if-is_empty.true)) in
    record {
      need = empty_apart l _ _ c.args.home _ own none;
      firings = keeps_right l _ _ _ c.args.home _ own none c.requires.firings c.keep.ensures;
    }

pub returns : goal.returns
returns c =
    let l = c.args.self.now in
    record {
      need =
          apart_evaluated l _ _ _ c.args.home _ (from_nothing l _ _ _ _ _ c.new-own.ensures.items c.in_ok-need.ensures)
          (c.in_ok-extend_from_slice.ensures.items ∙ ap (λ z. c.args.met.now.items ++ z) c.deref.ensures.value);
      firings = c.requires.firings;
    }
