use Rattle.std.proofs.Common.{ℕ, ◌<◌, length, refl, arith}
use Rattle.std.proofs.lemmas.List.{at_drop_more}
use Rattle.std.proofs.lemmas.List.Elements.{All-get_or}
use Rattle.c_text.specs.Labels.{labels_of}
use Rattle.c_text.proofs.LoopLemmas.{more_printed, all_printed}
use Rattle.c_file.specs.Comments.{said_of}
use Rattle.c_file.specs.Made.{functions_of}
use Rattle.c_file.specs.Source.{functions_text}
use Rattle.c_file.proofs.printing.print_functions.Goals as goal

pub print_numbered-requires-clause-within : goal.print_numbered-requires-clause-within
print_numbered-requires-clause-within c =
    All-get_or (λ (f : ℕ). f < length (functions_of c.args.made.now)) c.args.numbers.now c.loop-number.number-index _
    (omega arith) c.requires.within

pub loop-number-preserved : goal.loop-number-preserved
loop-number-preserved c =
    more_printed _ _ _ _ _ _
    (at_drop_more
    (functions_text (labels_of c.args.made.now.labels) (said_of c.args.made.now.said) c.args.uses.now.changing.items
    (functions_of c.args.made.now))
    c.args.numbers.now c.loop-number.number-index _ (omega arith))
    c.in_ok-print_numbered.ensures c.loop-number.invariant

pub returns : goal.returns
returns c =
    all_printed
    (functions_text (labels_of c.args.made.now.labels) (said_of c.args.made.now.said) c.args.uses.now.changing.items
    (functions_of c.args.made.now))
    c.args.numbers.now c.loop-number.number-index _ _ (omega arith) refl c.loop-number.invariant
