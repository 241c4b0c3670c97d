use Rattle.std.proofs.Common.{◌≡◌, ◌++◌, flat_map}
use Rattle.std.specs.Prelude.{string_bytes}
use Rattle.c_names.specs.Stems.{letter_text}
use Rattle.c_names.proofs.stems.print_doubled.Given as goal

-- the letters so far are printed
abbrev pub invariant-loop-letter : goal.invariant-loop-letter
invariant-loop-letter l = string_bytes l.out ≡ string_bytes l.fn.out ++ flat_map letter_text l.yielded
