use Rattle.std.proofs.Common.{◌≡◌, max, drop}
use Rattle.std.specs.Prelude.{slice_index}
use Rattle.code_language.specs.Code.{instrs_of}
use Rattle.code_language.specs.Measures.{height_by}
use Rattle.code_language.proofs.heights.height_of.Given as goal

-- the height so far and that of what is left are that of all
abbrev pub invariant-loop-instr : goal.invariant-loop-instr
invariant-loop-instr l =
    max l.height (height_by (slice_index l.heights) (drop l.instr-index (instrs_of l.instrs)))
    ≡ height_by (slice_index l.heights) (instrs_of l.instrs)
