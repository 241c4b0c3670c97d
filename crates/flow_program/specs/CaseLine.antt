-- The line of a case with measures.
use Rattle.std.specs.Prelude.{ℕ, List, ◌++◌, codes, decimal, Option, Some, None}
use Rattle.flow_program.specs.declared.measure.EndFault.{EndFault}
use Rattle.flow_program.specs.declared.measure.Measures.{Measures}

-- a line with the number of a case, three counts and a result
abbrev pub line_text : ℕ → ℕ → ℕ → ℕ → List ℕ → List ℕ
line_text n states events bytes result =
    codes "selftest " ++ decimal n ++ codes ": " ++ decimal states ++ codes " states, " ++ decimal events
    ++ codes " events, " ++ decimal bytes ++ codes " trace bytes, " ++ result ++ codes "\n"

-- the result in the last line of a trace, by the fault that ended the run
abbrev pub result_of : Option EndFault → List ℕ
result_of None = codes "ok"
result_of (Some fault) = fault.word

-- the line of a case with so many states
abbrev pub line_of_measures : ℕ → ℕ → Measures → List ℕ
line_of_measures n states m = line_text n states m.events m.trace_bytes (result_of m.fault)
