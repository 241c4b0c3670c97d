-- How the faults of a text are printed.
use Rattle.std.specs.Prelude.{ℕ, List, [], ◌++◌, Option, Some, None, codes, decimal}
use Rattle.code_fields.specs.Lines.{line_words}
use Rattle.code_language.specs.Form.{code_fault_text}
use Rattle.code_text.specs.declared.fault.CodeTextFault.{CodeTextFault}
use Rattle.code_text.specs.declared.fault.CodeTextFault.TheVariants as faults

-- the number of a fault; Memory has none
abbrev pub fault_number : CodeTextFault → ℕ
fault_number (faults.BadLine n) = 1
fault_number faults.Truncated = 2
fault_number (faults.Trailing n) = 3
fault_number faults.Version = 4
fault_number faults.TextTooLong = 5
fault_number (faults.Form fault) = 6
fault_number faults.Memory = 0

-- its name
abbrev pub fault_name : CodeTextFault → List ℕ
fault_name (faults.BadLine n) = codes "BadLine"
fault_name faults.Truncated = codes "Truncated"
fault_name (faults.Trailing n) = codes "Trailing"
fault_name faults.Version = codes "Version"
fault_name faults.TextTooLong = codes "TextTooLong"
fault_name (faults.Form fault) = codes "Form"
fault_name faults.Memory = codes "Memory"

-- the line that it names
abbrev pub fault_line : CodeTextFault → Option ℕ
fault_line (faults.BadLine n) = Some n
fault_line faults.Truncated = None
fault_line (faults.Trailing n) = Some n
fault_line faults.Version = None
fault_line faults.TextTooLong = None
fault_line (faults.Form fault) = None
fault_line faults.Memory = None

-- the line, number and name of a fault
abbrev pub fault_head : CodeTextFault → List ℕ
fault_head fault =
    codes "code" ++ line_words (fault_line fault) ++ codes ": " ++ decimal (fault_number fault) ++ codes " " ++ fault_name fault

-- the text of a fault; code that isn't well formed has a fault of its own
abbrev pub fault_text : CodeTextFault → List ℕ
fault_text (faults.BadLine n) = fault_head (faults.BadLine n)
fault_text faults.Truncated = fault_head faults.Truncated
fault_text (faults.Trailing n) = fault_head (faults.Trailing n)
fault_text faults.Version = fault_head faults.Version
fault_text faults.TextTooLong = fault_head faults.TextTooLong
fault_text (faults.Form fault) = fault_head (faults.Form fault) ++ codes " " ++ code_fault_text fault
fault_text faults.Memory = codes "out of memory"
