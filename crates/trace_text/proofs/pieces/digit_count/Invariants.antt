use Rattle.std.proofs.Common.{◌≡◌, ◌+◌, ◌≤◌, length}
use Rattle.std.specs.Prelude.{decimal}
use Rattle.trace_text.proofs.pieces.digit_count.Given as goal

-- the digits that are counted stand after those that are left
abbrev pub invariant-fours : goal.invariant-fours
invariant-fours l = record {
  count : l.behind + length (decimal l.left) ≡ length (decimal l.number);
  few : l.behind + length (decimal l.left) ≤ 20;
}

abbrev pub decreases-fours : goal.decreases-fours
decreases-fours l = l.left
