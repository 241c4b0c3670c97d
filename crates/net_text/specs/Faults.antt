-- How the faults of a net text are printed.
use Rattle.std.specs.Prelude.{ℕ, List, [], ◌++◌, Option, Some, None, codes, decimal}
use Rattle.code_fields.specs.Lines.{line_words}
use Rattle.net_text.specs.declared.fault.NetFault.{NetFault}
use Rattle.net_text.specs.declared.fault.NetFault.TheVariants as faults

-- the number of a fault; Memory has none
abbrev pub fault_number : NetFault → ℕ
fault_number (faults.BadLine line) = 1
fault_number faults.Truncated = 2
fault_number (faults.Trailing line) = 3
fault_number (faults.BadRoute line) = 4
fault_number (faults.NameTwice line) = 5
fault_number faults.TextTooLong = 6
fault_number faults.Memory = 0

-- its name
abbrev pub fault_name : NetFault → List ℕ
fault_name (faults.BadLine line) = codes "BadLine"
fault_name faults.Truncated = codes "Truncated"
fault_name (faults.Trailing line) = codes "Trailing"
fault_name (faults.BadRoute line) = codes "BadRoute"
fault_name (faults.NameTwice line) = codes "NameTwice"
fault_name faults.TextTooLong = codes "TextTooLong"
fault_name faults.Memory = codes "Memory"

-- the line that it names
abbrev pub fault_line : NetFault → Option ℕ
fault_line (faults.BadLine line) = Some line
fault_line faults.Truncated = None
fault_line (faults.Trailing line) = Some line
fault_line (faults.BadRoute line) = Some line
fault_line (faults.NameTwice line) = Some line
fault_line faults.TextTooLong = None
fault_line faults.Memory = None

-- the line, number and name of a fault
abbrev pub fault_words : NetFault → List ℕ
fault_words fault =
    codes "net" ++ line_words (fault_line fault)
    ++ codes ": " ++ decimal (fault_number fault) ++ codes " " ++ fault_name fault

-- the text of a fault
abbrev pub fault_text : NetFault → List ℕ
fault_text (faults.BadLine line) = fault_words (faults.BadLine line)
fault_text faults.Truncated = fault_words faults.Truncated
fault_text (faults.Trailing line) = fault_words (faults.Trailing line)
fault_text (faults.BadRoute line) = fault_words (faults.BadRoute line)
fault_text (faults.NameTwice line) = fault_words (faults.NameTwice line)
fault_text faults.TextTooLong = fault_words faults.TextTooLong
fault_text faults.Memory = codes "out of memory"
