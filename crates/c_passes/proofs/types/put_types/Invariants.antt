use Rattle.std.proofs.Common.{◌≡◌, ◌++◌, ◌-◌, replicate}
use Rattle.c_passes.proofs.types.put_types.Given as goal

-- the types so far, and those that are left
abbrev pub invariant-loop : goal.invariant-loop
invariant-loop l = l.types.items ++ replicate (l.count - l.counter) l.kind ≡ l.initial.types.items ++ replicate l.count l.kind
