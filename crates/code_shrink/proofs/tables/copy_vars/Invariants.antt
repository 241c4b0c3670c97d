use Rattle.std.proofs.Common.{◌≡◌, take}
use Rattle.flow_base.specs.Lists.{items_of}
use Rattle.code_shrink.proofs.tables.copy_vars.Given as goal

-- the items so far are copied
abbrev pub invariant-loop-var : goal.invariant-loop-var
invariant-loop-var l = items_of l.copies ≡ take l.var-index l.vars
