use Rattle.std.proofs.Common.{◌≡◌, take, map}
use Rattle.code_language.specs.Code.{instrs_of}
use Rattle.code_copies.specs.Tested.{tested_event, set_all}
use Rattle.code_copies.proofs.tested.set_tested.Given as goal

-- the flags of what the instructions so far test for are set
abbrev pub invariant-loop-instr : goal.invariant-loop-instr
invariant-loop-instr l = l.flags ≡ set_all (map tested_event (instrs_of (take l.instr-index l.instrs))) l.fn.flags
