-- Chart texts that are refused.
use Rattle.std.specs.Prelude.{ℕ, List}
use Rattle.chart_tree.specs.declared.fault.FormFault.{FormFault}
use Rattle.chart_tree.specs.declared.fault.FormFault.TheVariants as faults
use Rattle.commands.specs.declared.file.FileEnd.{FileEnd}
use Rattle.commands.specs.declared.file.FileEnd.TheVariants as ends
use Rattle.commands.specs.declared.refusal.Refusal.{Refusal}

-- why nothing comes of a file whose text has that fault
abbrev pub end_of_fault : FormFault → FileEnd Refusal
end_of_fault (faults.At kind at) = ends.Refused (record { kind = kind; at = at })
end_of_fault faults.Memory = ends.Memory

-- a text is refused with a fault of it
abbrev pub RefusesBy : (List ℕ → FormFault → Type 0) → List ℕ → Refusal → Type 0
RefusesBy IsFault text r = IsFault text (faults.At r.kind r.at)
