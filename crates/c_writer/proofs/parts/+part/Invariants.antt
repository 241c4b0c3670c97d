use Rattle.std.proofs.Common.{◌≡◌, ◌≤◌, ◌+◌, ◌-◌, ◌*◌, ◌++◌}
use Rattle.std.specs.Prelude.{◌||◌}
use Rattle.flow_base.specs.Lists.{items_of}
use Rattle.code_language.specs.Code.{instrs_of}
use Rattle.c_subset.specs.Lines.{lines_in, lines_of}
use Rattle.c_functions.specs.Plans.{plan_c, plays}
use Rattle.c_shape.specs.FileShapes.{shape_seen}
use Rattle.c_writer.specs.Parts.{StaysWithin, part}
use Rattle.c_writer.proofs.parts.+part.Given as goal

-- ---- measures: how many instructions are left, and at one number which call stands over which

abbrev pub decreases-write_else : goal.decreases-write_else
decreases-write_else l = 4 * (l.to - l.from) + 4

abbrev pub decreases-write_if : goal.decreases-write_if
decreases-write_if l = 4 * (l.end - l.rest) + 5

abbrev pub decreases-write_next : goal.decreases-write_next
decreases-write_next l = 4 * (l.to - l.at) + 2

abbrev pub decreases-write_part : goal.decreases-write_part
decreases-write_part l = 4 * (l.to - l.from) + 3

-- what is written and what is left are what was there and the whole part, and so for whether it plays
abbrev pub invariant-write_part-loop-at : goal.invariant-write_part-loop-at
invariant-write_part-loop-at l =
    let K = shape_seen l.shape in
    let xs = instrs_of l.instrs in
    record {
      after : l.from ≤ l.at;
      within : l.at ≤ l.to;
      stays : StaysWithin xs l.at l.to;
      lines :
          lines_in (items_of l.lines) ++ lines_of (plan_c K (part K l.react xs l.at l.to))
          ≡ lines_in (items_of l.initial.lines) ++ lines_of (plan_c K (part K l.react xs l.from l.to));
      plays_is :
          plays (part K l.react xs l.from l.to) ≡ (l.plays || plays (part K l.react xs l.at l.to));
    }

abbrev pub decreases-write_part-loop-at : goal.decreases-write_part-loop-at
decreases-write_part-loop-at l = l.to - l.at
