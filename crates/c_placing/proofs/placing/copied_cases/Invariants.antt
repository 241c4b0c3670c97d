use Rattle.std.proofs.Common.{◌≡◌, take}
use Rattle.flow_base.specs.Lists.{items_of}
use Rattle.c_placing.proofs.placing.copied_cases.Given as goal

-- the cases so far are copied
abbrev pub invariant-loop-case : goal.invariant-loop-case
invariant-loop-case l = items_of l.made ≡ take l.case-index l.cases
