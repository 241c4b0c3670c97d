use Rattle.std.proofs.Common.{◌≡◌, ℕ, ◌≤◌, ◌<◌, ◌+◌, ◌-◌, ◌*◌, ◌^◌, true, drop, get_or, length}
use Rattle.std.specs.Char.{is_ascii_digit}
use Rattle.fixed_point.specs.Reading.{value_after}
use Rattle.event_file.proofs.short_numbers.short_value.Given as goal

-- the bytes so far are digits, those that are left give the value of all, and it stays within its room
abbrev pub invariant-loop-digit : goal.invariant-loop-digit
invariant-loop-digit l = record {
  passed : (k : ℕ) → k < l.digit-index → is_ascii_digit (get_or l.text k 0) ≡ true;
  value : value_after l.value (drop l.digit-index l.text) ≡ value_after 0 l.text;
  room : (l.value + 1) * 10 ^ (length l.text - l.digit-index) ≤ 10 ^ 9;
}
