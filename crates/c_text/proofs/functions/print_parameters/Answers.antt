use Rattle.std.proofs.Common.{refl, arith}
use Rattle.std.proofs.lemmas.List.{at_drop_more}
use Rattle.c_text.specs.Functions.{parameters_text}
use Rattle.c_text.specs.Labels.{labels_of}
use Rattle.c_text.proofs.LoopLemmas.{more_printed, all_printed}
use Rattle.c_text.proofs.functions.print_parameters.Goals as goal

pub loop-number-preserved : goal.loop-number-preserved
loop-number-preserved c =
    more_printed _ _ _ _ _ _
    (at_drop_more (parameters_text (labels_of c.args.labels.now) c.args.kind c.loop-number.number) c.args.parameters.now c.loop-number.number _
    (omega arith))
    c.in_ok-print_parameter.ensures c.loop-number.invariant

pub returns : goal.returns
returns c =
    all_printed (parameters_text (labels_of c.args.labels.now) c.args.kind c.loop-number.number) c.args.parameters.now c.loop-number.number _ _
    (omega arith) refl c.loop-number.invariant
