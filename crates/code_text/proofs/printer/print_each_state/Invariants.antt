use Rattle.std.proofs.Common.{◌≡◌, ◌++◌, map, drop}
use Rattle.std.specs.Prelude.{string_bytes}
use Rattle.std.specs.List.{AllByRecursion}
use Rattle.code_lines.specs.Spelling.{state_line}
use Rattle.code_text.specs.Spelling.{text_of, HasItsParent}
use Rattle.code_text.proofs.printer.print_each_state.Given as goal

-- what was printed, and the lines to come, are all; where the states to come have parents with numbers of a text, all have
abbrev pub invariant-loop-state : goal.invariant-loop-state
invariant-loop-state l = record {
  text : string_bytes l.out ++ text_of (map state_line (drop l.state-index l.states)) ≡ string_bytes l.fn.out ++ text_of (map state_line l.states);
  parents : AllByRecursion HasItsParent (drop l.state-index l.states) → AllByRecursion HasItsParent l.states;
}
