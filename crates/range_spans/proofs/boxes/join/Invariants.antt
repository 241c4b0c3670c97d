use Rattle.std.proofs.Common.{◌≡◌, ◌<◌, ◌≤◌, ℕ, List, length}
use Rattle.range_spans.specs.Spans.{Span, joined}
use Rattle.range_spans.specs.Boxes.{box_of}
use Rattle.range_spans.proofs.boxes.join.Given as goal

-- the spans before i are joined, and the others are as they were
pub record Joined (old now other : List Span) (i : ℕ) : Type 0 where
  pub count : length now ≡ length old
  pub done : (k : ℕ) → k < i → box_of now k ≡ joined (box_of old k) (box_of other k)
  pub rest : (k : ℕ) → i ≤ k → box_of now k ≡ box_of old k

abbrev pub invariant-loop-i : goal.invariant-loop-i
invariant-loop-i l = Joined l.initial.spans.items l.spans.items l.other l.i
