use Rattle.std.proofs.Common.{◌-◌, ◌∙◌, arith}
use Rattle.std.specs.Prelude.{codes}
use Rattle.c_text.proofs.LabelLemmas.{printed_as, nothing_printed, numbered-first, numbered-past, numbered-at}
use Rattle.c_text.proofs.LabelLemmas.{numbered-none}
use Rattle.c_text.proofs.fields.print_state_label.Goals as goal

pub returns-then-place-ors : goal.returns-then-place-ors
returns-then-place-ors c =
    printed_as _ _ _ _ _ (numbered-first (codes "child_") c.args.labels.now.ors c.args.place _ (omega arith))
    c.print_number.ensures

pub returns-then-place-ors-2 : goal.returns-then-place-ors-2
returns-then-place-ors-2 c =
    printed_as _ _ _ _ _
    (numbered-past (codes "child_") c.args.labels.now.ors c.args.place _ (omega arith)
    ∙ numbered-first (codes "last_") c.args.labels.now.ors (c.args.place - c.args.labels.now.ors) _ (omega arith))
    c.print_number-then-place-ors-2.ensures

pub returns-then-place-ors-3 : goal.returns-then-place-ors-3
returns-then-place-ors-3 c =
    printed_as _ _ _ _ _
    (numbered-past (codes "child_") c.args.labels.now.ors c.args.place _ (omega arith)
    ∙ numbered-past (codes "last_") c.args.labels.now.ors (c.args.place - c.args.labels.now.ors) _ (omega arith)
    ∙ numbered-at (codes "flags_") c.args.labels.now.words
    (c.args.place - c.args.labels.now.ors - c.args.labels.now.ors) (omega arith))
    c.print_number-then-place-ors-3.ensures

pub returns-else-place-ors-3 : goal.returns-else-place-ors-3
returns-else-place-ors-3 c =
    nothing_printed _ _
    (numbered-past (codes "child_") c.args.labels.now.ors c.args.place _ (omega arith)
    ∙ numbered-past (codes "last_") c.args.labels.now.ors (c.args.place - c.args.labels.now.ors) _ (omega arith)
    ∙ numbered-none (codes "flags_") c.args.labels.now.words
    (c.args.place - c.args.labels.now.ors - c.args.labels.now.ors) (omega arith))
