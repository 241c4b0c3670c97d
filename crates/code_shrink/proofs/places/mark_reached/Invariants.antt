use Rattle.std.proofs.Common.{◌≡◌, List, length, map}
use Rattle.code_language.specs.Instrs.{Instr}
use Rattle.code_shrink.specs.Ways.{way_of, Marking}
use Rattle.code_shrink.proofs.places.mark_reached.Given as goal

-- the marks so far
abbrev pub invariant-loop-place : goal.invariant-loop-place
invariant-loop-place l =
    (length l.flags ≡ length l.ways) × ((t : List Instr) → map way_of t ≡ l.ways → Marking t l.place l.flags)
