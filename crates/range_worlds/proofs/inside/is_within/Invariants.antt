use Rattle.std.proofs.Common.{◌≡◌, ℕ, ◌<◌, true}
use Rattle.range_spans.specs.Boxes.{box_of}
use Rattle.range_spans.specs.Spans.{is_inside}
use Rattle.range_worlds.proofs.inside.is_within.Given as goal

-- the spans before i are inside
abbrev pub invariant-loop-i : goal.invariant-loop-i
invariant-loop-i l = (k : ℕ) → k < l.i → is_inside (box_of l.a k) (box_of l.b k) ≡ true
