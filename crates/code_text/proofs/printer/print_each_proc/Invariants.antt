use Rattle.std.proofs.Common.{◌≡◌, ◌++◌, map, drop}
use Rattle.std.specs.Prelude.{string_bytes}
use Rattle.std.specs.List.{flat_map, AllByRecursion}
use Rattle.flow_base.specs.Lists.{items_of}
use Rattle.code_language.specs.Code.{instrs_of}
use Rattle.code_lines.specs.Spelling.{HasNumbers}
use Rattle.code_text.specs.Spelling.{text_of, proc_lines}
use Rattle.code_text.proofs.printer.print_each_proc.Given as goal

-- what was printed, and the lines to come, are all; where the procedures to come have numbers of a text, all have
abbrev pub invariant-loop-proc : goal.invariant-loop-proc
invariant-loop-proc l = record {
  text : string_bytes l.out ++ text_of (flat_map proc_lines (map (λ is. instrs_of (items_of is)) (drop l.proc-index l.procs)))
      ≡ string_bytes l.fn.out ++ text_of (flat_map proc_lines (map (λ is. instrs_of (items_of is)) l.procs));
  numbers : AllByRecursion (AllByRecursion HasNumbers) (map (λ is. instrs_of (items_of is)) (drop l.proc-index l.procs))
      → AllByRecursion (AllByRecursion HasNumbers) (map (λ is. instrs_of (items_of is)) l.procs);
}
