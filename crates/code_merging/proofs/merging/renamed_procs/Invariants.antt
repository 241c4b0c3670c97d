use Rattle.std.proofs.Common.{◌≡◌, take, map}
use Rattle.flow_base.specs.Lists.{items_of}
use Rattle.code_language.specs.Acceptance.{procs_of}
use Rattle.code_shrink.specs.Numbers.{number_by}
use Rattle.code_merging.specs.Merged.{under}
use Rattle.code_merging.proofs.merging.renamed_procs.Given as goal

-- those so far are made
abbrev pub invariant-loop-instrs : goal.invariant-loop-instrs
invariant-loop-instrs l =
    procs_of (items_of l.made) ≡ map (under (number_by l.numbers)) (procs_of (take l.instrs-index l.procs))
