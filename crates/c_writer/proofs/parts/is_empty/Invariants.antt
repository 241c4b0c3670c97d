use Rattle.std.proofs.Common.{◌≡◌, ◌≤◌, ◌-◌, ℕ}
use Rattle.code_language.specs.Code.{instrs_of}
use Rattle.c_shape.specs.FileShapes.{shape_seen}
use Rattle.c_writer.specs.Parts.{StaysWithin, part}
use Rattle.c_writer.proofs.parts.is_empty.Given as goal

-- nothing is written for those that were passed
abbrev pub invariant-loop-place : goal.invariant-loop-place
invariant-loop-place l = record {
  within : l.place ≤ l.to;
  stays : StaysWithin (instrs_of l.instrs) l.place l.to;
  same : (react : ℕ) → part (shape_seen l.shape) react (instrs_of l.instrs) l.place l.to
      ≡ part (shape_seen l.shape) react (instrs_of l.instrs) l.from l.to;
}

abbrev pub decreases-loop-place : goal.decreases-loop-place
decreases-loop-place l = l.to - l.place
