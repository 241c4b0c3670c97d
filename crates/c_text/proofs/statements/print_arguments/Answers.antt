use Rattle.std.proofs.Common.{refl, arith}
use Rattle.c_subset.specs.Lines.{exprs_of}
use Rattle.c_text.specs.Labels.{labels_of}
use Rattle.c_text.specs.Statements.{arguments_text}
use Rattle.c_text.proofs.LoopLemmas.{more_printed, all_printed, to_come}
use Rattle.c_text.proofs.statements.print_arguments.Goals as goal

pub loop-number-preserved : goal.loop-number-preserved
loop-number-preserved c =
    more_printed _ _ _ _ _ _
    (to_come
    (λ es. arguments_text (labels_of c.args.labels.now) c.args.kind c.args.callee c.loop-number.number (exprs_of es))
    c.args.args.now c.loop-number.number c.index-args-number.result (omega arith) c.index-args-number.is)
    c.in_ok-print_argument.ensures c.loop-number.invariant

pub returns : goal.returns
returns c =
    all_printed
    (λ es. arguments_text (labels_of c.args.labels.now) c.args.kind c.args.callee c.loop-number.number (exprs_of es))
    c.args.args.now c.loop-number.number _ _ (omega arith) refl c.loop-number.invariant
