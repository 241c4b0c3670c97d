use Rattle.std.proofs.Common.{◌≡◌, drop}
use Rattle.std.specs.List.{list_any}
use Rattle.c_subset.specs.declared.trees.Case.{Case}
use Rattle.c_text.specs.Functions.{passes_struct}
use Rattle.c_text.specs.Labels.{labels_of}
use Rattle.c_text.proofs.reading.any_passes_struct.Given as goal

-- the cases to come give what all give
abbrev pub invariant-loop-case : goal.invariant-loop-case
invariant-loop-case l =
    list_any (λ (x : Case). passes_struct (labels_of l.labels) x.function) (drop l.case-index l.cases)
    ≡ list_any (λ (x : Case). passes_struct (labels_of l.labels) x.function) l.cases
