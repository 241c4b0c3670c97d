use Rattle.std.proofs.Common.{◌≡◌, ◌+◌, ◌-◌, ◌++◌, replicate}
use Rattle.flow_base.specs.Lists.{items_of}
use Rattle.c_subset.specs.Trees.{Block}
use Rattle.c_subset.specs.Lines.{lines_in, lines_of}
use Rattle.c_functions.specs.Starts.{store_all}
use Rattle.c_writer.specs.Starting.{nothing_of}
use Rattle.c_writer.proofs.starts.put_zeros.Given as goal

-- what is written and what is left store all zeros
abbrev pub invariant-loop-place : goal.invariant-loop-place
invariant-loop-place l =
    (rest : Block) →
    lines_in (items_of l.lines)
    ++ lines_of (store_all (l.first + l.place) (replicate (l.count - l.place) (nothing_of l.kind)) rest)
    ≡ lines_in (items_of l.initial.lines) ++ lines_of (store_all l.first (replicate l.count (nothing_of l.kind)) rest)
