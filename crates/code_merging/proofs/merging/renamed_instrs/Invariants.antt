use Rattle.std.proofs.Common.{◌≡◌, take}
use Rattle.code_language.specs.Code.{instrs_of}
use Rattle.code_shrink.specs.Numbers.{number_by}
use Rattle.code_merging.specs.Merged.{under}
use Rattle.code_merging.proofs.merging.renamed_instrs.Given as goal

-- those so far are made
abbrev pub invariant-loop-instr : goal.invariant-loop-instr
invariant-loop-instr l =
    instrs_of l.made.items ≡ under (number_by l.numbers) (instrs_of (take l.instr-index l.instrs))
