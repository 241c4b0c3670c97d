use Rattle.std.proofs.Common.{◌∙◌}
use Rattle.c_text.specs.Labels.{labels_of}
use Rattle.c_file.specs.Made.{functions_of}
use Rattle.c_file.specs.Source.{declarations_text}
use Rattle.c_file.proofs.OrderLemmas.{order_below, declared_below}
use Rattle.c_file.proofs.PrintLemmas.{of_same}
use Rattle.c_file.proofs.printing.print_declarations.Goals as goal

pub print_under_blank-requires-clause-within : goal.print_under_blank-requires-clause-within
print_under_blank-requires-clause-within c =
    declared_below (labels_of c.args.made.now.labels) (functions_of c.args.made.now)
    c.args.order.now.functions.items _ _
    (order_below c.args.uses.now.reached.items c.args.order.now.functions.items _ c.requires.order.is
    c.requires.uses.reached.size)
    (c.deref.ensures.value ∙ c.requires.order.declared)

pub returns : goal.returns
returns c =
    of_same (declarations_text (labels_of c.args.made.now.labels) c.args.uses.now.changing.items
    (functions_of c.args.made.now)) _ _ _ _ c.in_ok-print_under_blank.ensures
    (c.deref.ensures.value ∙ c.requires.order.declared)
