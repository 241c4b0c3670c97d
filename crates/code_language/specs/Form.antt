-- How the faults of code are printed.
use Rattle.std.specs.Prelude.{ℕ, List, ◌++◌, codes, decimal}
use Rattle.code_language.specs.declared.fault.CodeKind.{CodeKind}
use Rattle.code_language.specs.declared.fault.CodeKind.TheVariants as kinds
use Rattle.code_language.specs.declared.fault.CodeFault.{CodeFault}

-- the number of a kind of fault
abbrev pub code_number : CodeKind → ℕ
code_number kinds.BadNumber = 1
code_number kinds.SkipOut = 2
code_number kinds.CallNotLower = 3
code_number kinds.CodeTypes = 4
code_number kinds.TooHigh = 5
code_number kinds.TooMuchWork = 6
code_number kinds.TooManyProcs = 7
code_number kinds.NoRet = 8
code_number kinds.BadTable = 9
code_number kinds.BadKeep = 10

-- its name
abbrev pub code_name : CodeKind → List ℕ
code_name kinds.BadNumber = codes "BadNumber"
code_name kinds.SkipOut = codes "SkipOut"
code_name kinds.CallNotLower = codes "CallNotLower"
code_name kinds.CodeTypes = codes "CodeTypes"
code_name kinds.TooHigh = codes "TooHigh"
code_name kinds.TooMuchWork = codes "TooMuchWork"
code_name kinds.TooManyProcs = codes "TooManyProcs"
code_name kinds.NoRet = codes "NoRet"
code_name kinds.BadTable = codes "BadTable"
code_name kinds.BadKeep = codes "BadKeep"

-- the text of a fault: number and name of its kind, and the procedure and the place in it
abbrev pub code_fault_text : CodeFault → List ℕ
code_fault_text fault =
    decimal (code_number fault.kind) ++ codes " " ++ code_name fault.kind
    ++ codes " " ++ decimal fault.proc ++ codes "." ++ decimal fault.place
