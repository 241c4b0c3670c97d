use Rattle.std.proofs.Common.{◌≡◌, ◌++◌, drop}
use Rattle.flow_base.specs.Lists.{items_of}
use Rattle.code_language.specs.Acceptance.{procs_of}
use Rattle.code_depths.specs.Depths.{cut_from}
use Rattle.code_depths.proofs.cutting.cut_procs.Given as goal

-- what is made, with what is left, is all
abbrev pub invariant-loop-proc : goal.invariant-loop-proc
invariant-loop-proc l =
    procs_of (items_of l.made)
    ++ cut_from l.depth l.cut.levels.items l.cut.leaf l.proc (procs_of (drop l.proc l.procs))
    ≡ cut_from l.depth l.cut.levels.items l.cut.leaf 0 (procs_of l.procs)
