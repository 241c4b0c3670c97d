use Rattle.std.proofs.Common.{◌≡◌, length, take}
use Rattle.event_file.specs.LineValues.{without}
use Rattle.event_file.proofs.input_vals.drop_values.Given as goal

-- the values of the data up to the index are dropped
abbrev pub invariant-loop-number : goal.invariant-loop-number
invariant-loop-number l = record {
  dropped : l.values ≡ without l.fn.values (take l.number-index l.named);
  room : length l.values ≡ length l.fn.values;
}
