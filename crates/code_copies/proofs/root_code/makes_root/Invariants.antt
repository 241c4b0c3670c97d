use Rattle.std.proofs.Common.{drop, Some}
use Rattle.code_language.specs.Code.{Procedures, instrs_of}
use Rattle.code_copies.specs.Rooted.{MakesRoot}
use Rattle.code_copies.proofs.root_code.makes_root.Given as goal

-- the whole makes the root active where what is left does
abbrev pub invariant-loop-instr : goal.invariant-loop-instr
invariant-loop-instr l = (k : Procedures)
    → MakesRoot k l.home (drop l.over (instrs_of (drop l.instr-index l.instrs)))
    → MakesRoot k (Some 0) (instrs_of l.instrs)
