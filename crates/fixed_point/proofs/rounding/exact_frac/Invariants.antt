use Rattle.std.proofs.Common.{◌≡◌, ◌-◌, ◌*◌, ◌%◌, ◌^◌}
use Rattle.fixed_point.specs.Text.{first_from}
use Rattle.fixed_point.specs.Reading.{is_exact}
use Rattle.fixed_point.proofs.rounding.exact_frac.Given as goal

-- this rest is left at the fraction, and none of fewer bits was exact
abbrev pub invariant-loop-frac : goal.invariant-loop-frac
invariant-loop-frac l = record {
  left : l.rest ≡ (l.units * 2 ^ l.frac) % 10 ^ l.places;
  to_come : first_from (is_exact l.units l.places) l.frac (33 - l.frac)
      ≡ first_from (is_exact l.units l.places) 0 33;
}
