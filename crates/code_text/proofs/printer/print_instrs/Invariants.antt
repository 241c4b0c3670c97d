use Rattle.std.proofs.Common.{◌≡◌, ◌++◌, map, drop}
use Rattle.std.specs.Prelude.{string_bytes}
use Rattle.std.specs.List.{AllByRecursion}
use Rattle.code_language.specs.Code.{instrs_of}
use Rattle.code_lines.specs.Spelling.{instr_line, HasNumbers}
use Rattle.code_text.specs.Spelling.{text_of}
use Rattle.code_text.proofs.printer.print_instrs.Given as goal

-- what was printed, and the lines to come, are all; where the instructions to come have numbers of a text, all have
abbrev pub invariant-loop-instr : goal.invariant-loop-instr
invariant-loop-instr l = record {
  text : string_bytes l.out ++ text_of (map instr_line (instrs_of (drop l.instr-index l.instrs)))
      ≡ string_bytes l.fn.out ++ text_of (map instr_line (instrs_of l.instrs));
  numbers : AllByRecursion HasNumbers (instrs_of (drop l.instr-index l.instrs)) → AllByRecursion HasNumbers (instrs_of l.instrs);
}
