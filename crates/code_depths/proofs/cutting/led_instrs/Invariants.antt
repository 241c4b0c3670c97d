use Rattle.std.proofs.Common.{◌≡◌, take, map}
use Rattle.flow_base.specs.Lists.{items_of}
use Rattle.code_language.specs.Code.{instrs_of}
use Rattle.code_depths.specs.Depths.{led}
use Rattle.code_depths.proofs.cutting.led_instrs.Given as goal

-- those so far are made
abbrev pub invariant-loop-instr : goal.invariant-loop-instr
invariant-loop-instr l =
    instrs_of (items_of l.made) ≡ map (led l.other) (instrs_of (take l.instr-index l.instrs))
