use Rattle.c_subset.specs.Trees.{Function}
use Rattle.c_text.specs.Functions.{prototype_text}
use Rattle.c_text.specs.Labels.{labels_of}
use Rattle.c_file.specs.Changing.{only_reads}
use Rattle.c_file.specs.Made.{functions_of}
use Rattle.c_file.specs.Source.{declared_text}
use Rattle.c_file.proofs.FunctionLemmas.{no_function}
use Rattle.c_file.proofs.PrintLemmas.{at_number}
use Rattle.c_file.proofs.printing.print_declaration.Goals as goal

pub returns : goal.returns
unfolding declared_text
returns c =
    at_number (λ (g : Function). prototype_text (labels_of c.args.made.now.labels) c.args.number
    (only_reads c.args.uses.now.changing.items c.args.number) g.result g.parameters) (functions_of c.args.made.now)
    c.args.number no_function _ _ c.requires.within c.in_ok-print_declared.ensures
