use Rattle.std.proofs.Common.{refl, arith}
use Rattle.std.proofs.lemmas.List.{at_drop_more}
use Rattle.c_subset.specs.Lines.{exprs_of}
use Rattle.c_text.specs.Labels.{labels_of}
use Rattle.c_text.specs.Statements.{cases_text}
use Rattle.c_text.proofs.LoopLemmas.{more_printed, all_printed}
use Rattle.c_text.proofs.statements.print_cases.Goals as goal

pub loop-case-preserved : goal.loop-case-preserved
loop-case-preserved c =
    more_printed _ _ _ _ _ _
    (at_drop_more
    (cases_text (labels_of c.args.labels.now) c.args.kind c.args.depth c.args.local
    (exprs_of c.args.args.now))
    c.args.cases.now c.loop-case.case-index _ (omega arith))
    c.in_ok-print_case.ensures c.loop-case.invariant

pub returns : goal.returns
returns c =
    all_printed
    (cases_text (labels_of c.args.labels.now) c.args.kind c.args.depth c.args.local
    (exprs_of c.args.args.now))
    c.args.cases.now c.loop-case.case-index _ _ (omega arith) refl c.loop-case.invariant
