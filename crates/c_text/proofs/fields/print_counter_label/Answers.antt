use Rattle.std.proofs.Common.{refl, arith}
use Rattle.std.specs.Prelude.{[]}
use Rattle.std.proofs.lemmas.List.{get_or-append_right}
use Rattle.c_text.specs.Labels.{counter_labels, state_labels, labels_of}
use Rattle.c_text.proofs.LabelLemmas.{printed_as}
use Rattle.c_text.proofs.fields.print_counter_label.Goals as goal

pub returns-in_default : goal.returns-in_default
returns-in_default c =
    printed_as _ _ _ _ _
    (get_or-append_right counter_labels (state_labels (labels_of c.args.labels.now)) 6 c.args.place [] refl (omega arith))
    c.print_state_label.ensures
