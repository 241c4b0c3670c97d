use Rattle.std.proofs.Common.{◌≡◌, take}
use Rattle.flow_base.specs.Lists.{items_of}
use Rattle.code_language.specs.Code.{instrs_of}
use Rattle.code_merging.specs.Merged.{under}
use Rattle.code_shrink.specs.Numbers.{number_by}
use Rattle.code_pure_copies.proofs.making.copy_of.Given as goal

-- those so far are copies
abbrev pub invariant-loop-place : goal.invariant-loop-place
invariant-loop-place l =
    under (number_by l.origins) (instrs_of (items_of l.made)) ≡ instrs_of (take l.place l.instrs)
