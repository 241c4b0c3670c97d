use Rattle.std.proofs.Common.{take}
use Rattle.flow_base.specs.Lists.{items_of}
use Rattle.code_language.specs.Acceptance.{procs_of}
use Rattle.code_shrink.specs.Numbers.{number_by}
use Rattle.code_pure_copies.proofs.PureMade.{AreMade}
use Rattle.code_pure_copies.proofs.making.copies_of.Given as goal

-- those so far are copies
abbrev pub invariant-loop-number : goal.invariant-loop-number
invariant-loop-number l =
    AreMade (number_by l.origins) (procs_of l.procs) (procs_of (items_of l.made)) (take l.number l.origins)
