use Rattle.std.proofs.Common.{◌≡◌, ◌++◌, take}
use Rattle.flow_base.specs.Lists.{items_of}
use Rattle.code_language.specs.Code.{instrs_of}
use Rattle.code_copies.proofs.asking.copy_onto.Given as goal

-- the instructions so far are appended
abbrev pub invariant-loop-instr : goal.invariant-loop-instr
invariant-loop-instr l =
    instrs_of (items_of l.made) ≡ instrs_of (items_of l.fn.made) ++ instrs_of (take l.instr-index l.instrs)
