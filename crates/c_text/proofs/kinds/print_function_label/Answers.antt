use Rattle.std.proofs.Common.{sym, ap, ◌∙◌, arith}
use Rattle.std.specs.Option.{option_copied}
use Rattle.std.specs.Prelude.{codes}
use Rattle.c_text.specs.Labels.{labels_of}
use Rattle.c_text.proofs.LabelLemmas.{printed_as, nothing_printed}
use Rattle.c_text.proofs.WordLemmas.{name_goes_on, procedure_named, other_named, none_named, number_printed}
use Rattle.c_text.proofs.kinds.print_function_label.Goals as goal

pub returns-in_ok-print_chart_name : goal.returns-in_ok-print_chart_name
returns-in_ok-print_chart_name c =
    number_printed _ _ _ _ _ _ _ (rw c.from.ensures at c.print_number.ensures) c.in_ok-print_chart_name.ensures
    (name_goes_on _ (codes "p") _ ∙ sym (procedure_named (labels_of c.args.labels.now) c.args.function (omega arith)))

pub returns-in-Some : goal.returns-in-Some
returns-in-Some c =
    printed_as _ _ _ _ _
    (other_named (labels_of c.args.labels.now) c.args.function c.in-Some.word.now (omega arith)
    (sym c.other_word.ensures ∙ ap option_copied c.in-Some.is))
    c.print_chart_name-in-Some.ensures

pub returns-in-None : goal.returns-in-None
returns-in-None c =
    nothing_printed _ _
    (none_named (labels_of c.args.labels.now) c.args.function (omega arith)
    (sym c.other_word.ensures ∙ ap option_copied c.in-None.is))
