use Rattle.std.proofs.Common.{◌≡◌, ◌++◌, ◌∷◌, [], encode_utf8_all, string_bytes}
use Rattle.std.specs.List.{repeat}
use Rattle.c_lines.proofs.breaking.print_blanks.Given as goal

-- the blanks that are still to be written complete the whole
abbrev pub invariant-loop : goal.invariant-loop
invariant-loop l =
    string_bytes l.out ≡ string_bytes l.fn.out ++ encode_utf8_all (repeat l.counter (32 ∷ []))
