use Rattle.std.proofs.Common.{◌≡◌, ◌≤◌, ◌+◌, ◌-◌, ◌*◌, ◌^◌, drop, length}
use Rattle.fixed_point.specs.Reading.{value_after}
use Rattle.fixed_point.proofs.reading.value_after.Given as goal

-- the digits that are left give the value of all, and it stays within its room
abbrev pub invariant-loop-digit : goal.invariant-loop-digit
invariant-loop-digit l = record {
  value : value_after l.value (drop l.digit-index l.digits) ≡ value_after l.start l.digits;
  room : (l.value + 1) * 10 ^ (length l.digits - l.digit-index) ≤ (l.start + 1) * 10 ^ length l.digits;
}
