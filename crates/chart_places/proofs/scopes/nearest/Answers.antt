use Rattle.std.proofs.Common.{◌≡◌, Option, ℕ, Some, None, sym, ap, ◌∙◌}
use Rattle.checked_chart.proofs.Walks.{and_above}
use Rattle.chart_places.specs.Tables.{declared_in, declared_from}
use Rattle.chart_places.proofs.ScopeLemmas.{nearest_next, within_below}
use Rattle.chart_places.proofs.scopes.nearest.Goals as goal

pub loop-next-preserved : goal.loop-next-preserved
loop-next-preserved c =
    let none : declared_from 0 c.args.names.now (Some c.in-Some.above) c.args.text.now ≡ None = sym c.in-None.ensures in
    record {
      within =
          within_below c.parent-next.result c.in-Some.above _ c.parent-next.ensures.before
          (c.loop-next.invariant.within c.in-Some.above c.in-Some.is);
      same =
          sym (nearest_next c.args.shape.now c.len.ensures.tree c.args.names.now c.args.text.now c.in-Some.above
          c.parent-next.result none c.parent-next.ensures.parent)
          ∙ ap (λ (o : Option ℕ). declared_in c.args.names.now c.args.text.now (and_above c.args.shape.now o))
          (sym c.in-Some.is)
          ∙ c.loop-next.invariant.same;
    }
