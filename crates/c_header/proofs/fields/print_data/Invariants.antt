use Rattle.std.proofs.Common.{◌≡◌, ◌++◌, drop}
use Rattle.std.specs.Prelude.{string_bytes}
use Rattle.c_text.specs.Labels.{labels_of}
use Rattle.c_header.specs.Fields.{data_text}
use Rattle.c_header.proofs.fields.print_data.Given as goal

-- what was printed, and the data to come, are all
abbrev pub invariant-loop-number : goal.invariant-loop-number
invariant-loop-number l =
    string_bytes l.out ++ data_text (labels_of l.labels) l.number (drop l.number l.vars)
    ≡ string_bytes l.fn.out ++ data_text (labels_of l.labels) 0 l.vars
