use Rattle.std.proofs.Common.{◌≡◌, ◌≤◌, ◌-◌, ◌*◌, ◌/◌, ◌^◌, ◌++◌, take}
use Rattle.fixed_point.specs.Text.{last_digits}
use Rattle.fixed_point.proofs.Digits.{Divides}
use Rattle.fixed_point.proofs.writing.put_behind.Given as goal

-- `end - at` digits are written, and `rest` is left
abbrev pub invariant-loop-rest : goal.invariant-loop-rest
invariant-loop-rest l = record {
  started : l.at ≤ l.end;
  divided : Divides l.number l.frac (l.end - l.at) l.rest;
  text : take l.end l.buf ≡ take l.at l.fn.buf
      ++ last_digits (l.end - l.at) (l.number * 10 ^ (l.end - l.at) / 2 ^ l.frac);
}

abbrev pub decreases-loop-rest : goal.decreases-loop-rest
decreases-loop-rest l = l.frac - (l.end - l.at)
