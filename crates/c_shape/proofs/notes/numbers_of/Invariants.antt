use Rattle.std.proofs.Common.{◌≡◌, false, get_or}
use Rattle.std.specs.Prelude.{filter}
use Rattle.std.specs.List.{range_with_len}
use Rattle.flow_base.specs.Lists.{items_of}
use Rattle.c_shape.proofs.notes.numbers_of.Given as goal

-- the numbers so far
abbrev pub invariant-loop-number : goal.invariant-loop-number
invariant-loop-number l =
    items_of l.numbers ≡ filter (λ b. get_or l.flags b false) (range_with_len 0 l.number)
