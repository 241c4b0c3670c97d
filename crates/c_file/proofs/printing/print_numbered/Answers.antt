use Rattle.c_text.specs.Labels.{labels_of}
use Rattle.c_file.specs.Comments.{said_of}
use Rattle.c_file.specs.Made.{functions_of}
use Rattle.c_file.specs.Source.{commented_text, numbered_text}
use Rattle.c_file.proofs.FunctionLemmas.{no_function}
use Rattle.c_file.proofs.PrintLemmas.{at_number}
use Rattle.c_file.proofs.printing.print_numbered.Goals as goal

pub returns : goal.returns
unfolding numbered_text
returns c =
    at_number (commented_text (labels_of c.args.made.now.labels) (said_of c.args.made.now.said)
    c.args.uses.now.changing.items c.args.number) (functions_of c.args.made.now) c.args.number no_function _ _
    c.requires.within c.in_ok-print_commented.ensures
