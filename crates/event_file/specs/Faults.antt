-- The faults of event lines and of lines of a schedule, as refusals print them.
use Rattle.std.specs.Prelude.{ℕ, List, codes}
use Rattle.event_file.specs.declared.fault.LineFault.{LineFault}
use Rattle.event_file.specs.declared.fault.LineFault.TheVariants as faults

-- 1 to 6 in the order of the variants, and 8 for a line of a schedule that is no step
abbrev pub line_fault_number : LineFault → ℕ
line_fault_number faults.LineTooLong = 1
line_fault_number faults.UnknownEvent = 2
line_fault_number faults.NotInputEvent = 3
line_fault_number faults.UnknownInput = 4
line_fault_number faults.InputTwice = 5
line_fault_number faults.BadValue = 6
line_fault_number faults.BadStep = 8

-- the name
abbrev pub line_fault_name : LineFault → List ℕ
line_fault_name faults.LineTooLong = codes "LineTooLong"
line_fault_name faults.UnknownEvent = codes "UnknownEvent"
line_fault_name faults.NotInputEvent = codes "NotInputEvent"
line_fault_name faults.UnknownInput = codes "UnknownInput"
line_fault_name faults.InputTwice = codes "InputTwice"
line_fault_name faults.BadValue = codes "BadValue"
line_fault_name faults.BadStep = codes "BadStep"
