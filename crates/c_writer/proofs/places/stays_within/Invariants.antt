use Rattle.std.proofs.Common.{◌≡◌, ◌-◌, drop}
use Rattle.code_language.specs.Code.{instrs_of}
use Rattle.c_functions.specs.Writer.{stays_within}
use Rattle.c_writer.proofs.places.stays_within.Given as goal

-- those that were passed stay, so all stay where the others do
abbrev pub invariant-loop-place : goal.invariant-loop-place
invariant-loop-place l =
    stays_within (l.to - l.place) (drop l.place (instrs_of l.instrs))
    ≡ stays_within (l.to - l.from) (drop l.from (instrs_of l.instrs))

abbrev pub decreases-loop-place : goal.decreases-loop-place
decreases-loop-place l = l.to - l.place
