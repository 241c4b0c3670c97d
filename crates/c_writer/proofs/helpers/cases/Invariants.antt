use Rattle.std.proofs.Common.{◌≡◌, take}
use Rattle.flow_base.specs.Lists.{items_of}
use Rattle.c_functions.specs.Plans.{cases_of}
use Rattle.c_writer.proofs.helpers.cases.Given as goal

-- there are cases for those that were passed
abbrev pub invariant-loop-procedure : goal.invariant-loop-procedure
invariant-loop-procedure l = items_of l.cases ≡ cases_of (take l.procedure-index l.noted)
