use Rattle.std.proofs.Common.{◌≡◌, take}
use Rattle.flow_base.specs.Lists.{items_of}
use Rattle.c_inlined.proofs.functions.copied_types.Given as goal

-- the types so far are copied
abbrev pub invariant-loop-of : goal.invariant-loop-of
invariant-loop-of l = items_of l.made ≡ take l.of-index l.types
