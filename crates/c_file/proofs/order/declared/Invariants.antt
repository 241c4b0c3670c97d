use Rattle.std.proofs.Common.{◌≡◌, ◌++◌, drop}
use Rattle.c_text.specs.Labels.{labels_of}
use Rattle.c_file.specs.Made.{functions_of}
use Rattle.c_file.specs.Order.{declared_in}
use Rattle.c_file.proofs.OrderLemmas.{those}
use Rattle.c_file.proofs.order.declared.Given as goal

-- those that were found, and those of the functions to come, are all
abbrev pub invariant-loop-number : goal.invariant-loop-number
invariant-loop-number l =
    l.declared.items ++ those (labels_of l.made.labels) (functions_of l.made) l.order (drop l.number-index l.order)
    ≡ declared_in (labels_of l.made.labels) (functions_of l.made) l.order
