-- The literals of a resolved chart are in range and have a sort.
use Rattle.std.proofs.Common.{◌≡◌, ◌<◌, false, Ok, unsigned_abs, sym, ap, subst, arith}
use Rattle.fixed_point.specs.declared.num.Num.{Num}
use Rattle.fixed_point.specs.declared.rounding.TheConstants.{READ_LIMIT}
use Rattle.fixed_point.specs.Reading.{frac_of}
use Rattle.actions.specs.declared.sort.ExprSort.TheVariants as gives
use Rattle.actions.specs.Sorts.{least_size, literal_sort}
use Rattle.chart_tree.specs.declared.name.LitText.{LitText}
use Rattle.checked_chart.specs.Expressions as plain
use Rattle.resolved_tree.specs.Plain.{number_or_zero, signed_literal}
use Rattle.resolved_tree.specs.Promise.{IsLiteral}
use Rattle.chart_types.proofs.LiteralLemmas.{read_small, number_sorted}

-- a literal that denotes a number is in range
pub literal_fits : (lit : LitText) → IsLiteral lit → plain.IsLiteral (signed_literal false lit)
unfolding signed_literal
literal_fits lit h =
    let small = read_small lit.units lit.places (frac_of lit.q lit.units lit.places) h.number h.denoted in
    subst plain.IsLiteral (sym (ap number_or_zero h.denoted)) (record {
      units = small.0;
      mantissa = small.1;
      small = omega (arith, small.2);
      short = h.short;
    })

-- a literal in range has a sort
pub literal_sorted : (n : Num) → plain.IsLiteral n
    → literal_sort n ≡ Ok (gives.Number n.frac (least_size (unsigned_abs n.mantissa)))
literal_sorted n h = number_sorted n (subst (λ m. unsigned_abs m < READ_LIMIT) (sym h.mantissa) h.small) h.short
