use Rattle.std.proofs.Common.{◌≡◌, take}
use Rattle.code_language.specs.Code.{instrs_of}
use Rattle.code_shrink.specs.Numbers.{number_by}
use Rattle.code_merging.specs.Merged.{under}
use Rattle.code_merging.proofs.equal.are_same.Given as goal

-- those so far are the same
abbrev pub invariant-loop-place : goal.invariant-loop-place
invariant-loop-place l =
    under (number_by l.numbers) (instrs_of (take l.place l.left))
    ≡ under (number_by l.numbers) (instrs_of (take l.place l.right))
