use Rattle.c_file.specs.Ordering.{IsPlaced}
use Rattle.c_file.proofs.OrderLemmas.{ArePlaced}
use Rattle.c_file.proofs.order.place_all.Given as goal

-- those that were found so far stand in the order
abbrev pub invariant-loop-function : goal.invariant-loop-function
invariant-loop-function l = IsPlaced l.reached l.placed l.order.items

-- and so do those before the number
abbrev pub invariant-loop-number : goal.invariant-loop-number
invariant-loop-number l = ArePlaced l.reached l.placed l.order.items l.number
