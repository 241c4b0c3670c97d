use Rattle.std.proofs.Common.{◌≡◌, ◌*◌, ◌%◌, ◌^◌}
use Rattle.fixed_point.specs.Reading.{steps_of}
use Rattle.fixed_point.proofs.rounding.steps.Given as goal

-- `whole` steps of 2 ^ -_bits are in the number, and `rest` is left of it
abbrev pub invariant-loop-bits : goal.invariant-loop-bits
invariant-loop-bits l = record {
  steps : l.whole ≡ steps_of l.units l.places l._bits;
  left : l.rest ≡ (l.units * 2 ^ l._bits) % 10 ^ l.places;
}
