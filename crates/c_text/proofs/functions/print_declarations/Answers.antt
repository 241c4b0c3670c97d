use Rattle.std.proofs.Common.{refl, arith}
use Rattle.std.proofs.lemmas.List.{at_drop_more}
use Rattle.c_text.specs.Functions.{declarations_text}
use Rattle.c_text.specs.Labels.{labels_of}
use Rattle.c_text.proofs.LoopLemmas.{more_printed, all_printed}
use Rattle.c_text.proofs.functions.print_declarations.Goals as goal

pub loop-local-preserved : goal.loop-local-preserved
loop-local-preserved c =
    more_printed _ _ _ _ _ _
    (at_drop_more (declarations_text (labels_of c.args.labels.now) c.args.kind) c.args.locals.now c.loop-local.local-index _ (omega arith))
    c.in_ok-print_declaration.ensures c.loop-local.invariant

pub returns : goal.returns
returns c =
    all_printed (declarations_text (labels_of c.args.labels.now) c.args.kind) c.args.locals.now c.loop-local.local-index _ _ (omega arith) refl
    c.loop-local.invariant
