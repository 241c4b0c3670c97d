use Rattle.std.proofs.Common.{sym, subst}
use Rattle.c_text.specs.Labels.{labels_of}
use Rattle.c_file.specs.Comments.{said_of}
use Rattle.c_file.specs.Made.{functions_of}
use Rattle.c_file.specs.Order.{AreBelow}
use Rattle.c_file.specs.Source.{functions_text, source_text}
use Rattle.c_file.proofs.OrderLemmas.{order_below}
use Rattle.c_file.proofs.PrintLemmas.{two_printed, of_same}
use Rattle.c_file.proofs.printing.print_source.Goals as goal

pub print_functions-requires-clause-within : goal.print_functions-requires-clause-within
print_functions-requires-clause-within c =
    subst (AreBelow _) (sym c.deref.ensures.value)
    (order_below c.args.uses.now.reached.items c.args.order.now.functions.items _ c.requires.order.is
    c.requires.uses.reached.size)

pub returns : goal.returns
unfolding source_text
returns c =
    two_printed _ _ _ _ _ c.in_ok-print_front.ensures
    (of_same (functions_text (labels_of c.args.made.now.labels) (said_of c.args.made.now.said)
    c.args.uses.now.changing.items (functions_of c.args.made.now)) _ _ _ _ c.in_ok-print_functions.ensures
    c.deref.ensures.value)
