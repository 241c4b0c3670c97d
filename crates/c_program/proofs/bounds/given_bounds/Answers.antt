use Rattle.std.proofs.Common.{Some, refl, subst}
use Rattle.checked_chart.specs.Kept.{chart_of}
use Rattle.bound_prove.specs.Searches.{IsNeedOf}
use Rattle.c_program.proofs.bounds.given_bounds.Goals as goal

-- the bounds of the need
pub returns-in-Some : goal.returns-in-Some
returns-in-Some c =
    record {
      need = Some c.in-Some.need;
      is_need = subst (IsNeedOf (chart_of c.args.chart.now)) c.in-Some.is c.in_ok-need.ensures;
      bounds_are = refl;
    }
