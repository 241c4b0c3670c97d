use Rattle.code_language.specs.Code.{instrs_of}
use Rattle.code_shrink.specs.Numbers.{number_by}
use Rattle.code_shrink.proofs.MadeLemmas.{MadeFrom}
use Rattle.code_shrink.proofs.smaller.smaller_procedure.Given as goal

-- what is made so far
abbrev pub invariant-loop-place : goal.invariant-loop-place
invariant-loop-place l =
    MadeFrom (number_by l.numbers) l.flags (instrs_of l.instrs) l.place l.counts.items (instrs_of l.smaller.items)
