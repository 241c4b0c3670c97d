use Rattle.std.proofs.Common.{◌≡◌, take, replicate, length, false}
use Rattle.flow_base.specs.Lists.{items_of}
use Rattle.code_language.specs.Acceptance.{procs_of}
use Rattle.code_copies.specs.Tested.{tested_in, set_all}
use Rattle.code_copies.proofs.tested.tested_flags.Given as goal

-- the flags of what the procedures so far test for are set
abbrev pub invariant-loop-instrs : goal.invariant-loop-instrs
invariant-loop-instrs l =
    l.flags.items ≡ set_all (tested_in (procs_of (take l.instrs-index (items_of l.raw.procs))))
    (replicate (length (items_of l.raw.events)) false)
