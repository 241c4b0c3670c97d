-- How a line of a trace ends.
use Rattle.std.specs.Prelude.{ℕ, List}
use Rattle.actions.specs.Engines.{IsFaultOf}
use Rattle.actions.specs.Names.{Names}
use Rattle.trace_text.specs.declared.trace_parts.LineEnd.{LineEnd}
use Rattle.trace_text.specs.declared.trace_parts.LineEnd.TheVariants.{Ran, Full}
use Rattle.trace_text.specs.Trace.{result_word, full_word}

-- the word at the end of a line: the result, or the route that was full
abbrev pub end_word : Names → LineEnd → List ℕ
end_word n (Ran fault) = result_word n fault
end_word n (Full route) = full_word route

-- a fault is one that these declarations can have
abbrev pub IsEndOf : Names → LineEnd → Type 0
IsEndOf n (Ran fault) = IsFaultOf n fault
IsEndOf n (Full route) = Unit {0}
