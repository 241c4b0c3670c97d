use Rattle.std.proofs.Common.{◌≡◌, ◌++◌, map, drop}
use Rattle.flow_base.specs.Lists.{items_of}
use Rattle.c_subset.specs.Trees.{Block}
use Rattle.c_subset.specs.Lines.{lines_in, lines_of}
use Rattle.c_functions.specs.Starts.{store_all}
use Rattle.c_writer.specs.Starting.{value_of}
use Rattle.c_writer.proofs.starts.put_data.Given as goal

-- what is written and what is left store all data
abbrev pub invariant-loop-place : goal.invariant-loop-place
invariant-loop-place l =
    (rest : Block) →
    lines_in (items_of l.lines) ++ lines_of (store_all l.place (map value_of (drop l.place l.vars)) rest)
    ≡ lines_in (items_of l.initial.lines) ++ lines_of (store_all 0 (map value_of l.vars) rest)
