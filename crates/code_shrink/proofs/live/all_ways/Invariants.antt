use Rattle.std.proofs.Common.{◌≡◌, map, take}
use Rattle.flow_base.specs.Lists.{items_of}
use Rattle.flow_base.specs.declared.list.List as kept
use Rattle.code_language.specs.declared.instr.Instr.{Instr}
use Rattle.code_language.specs.Code.{instrs_of}
use Rattle.code_shrink.specs.Search.{items_in}
use Rattle.code_shrink.specs.Slides.{straight_ways}
use Rattle.code_shrink.proofs.live.all_ways.Given as goal

-- the ways so far
abbrev pub invariant-loop-procedure : goal.invariant-loop-procedure
invariant-loop-procedure l =
    items_in l.all.items
    ≡ map (λ (is : kept.List Instr). straight_ways (instrs_of (items_of is))) (take l.procedure-index l.procedure-items)
