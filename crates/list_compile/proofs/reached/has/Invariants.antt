use Rattle.std.proofs.Common.{◌≡◌, drop}
use Rattle.chart_code.specs.ReachedJunctions.{has}
use Rattle.list_compile.proofs.reached.has.Given as goal

-- the number is in the list just where it is in what is left
abbrev pub invariant-loop-item : goal.invariant-loop-item
invariant-loop-item l = has (drop l.item-index l.list) l.number ≡ has l.list l.number
