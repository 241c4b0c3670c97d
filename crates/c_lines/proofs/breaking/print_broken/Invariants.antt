use Rattle.std.proofs.Common.{◌≡◌, ◌++◌, IsUtf8, chars, encode_utf8_all, string_bytes}
use Rattle.std.specs.Str.Iter.{chars_rest}
use Rattle.c_lines.specs.Broken as spec
use Rattle.c_lines.specs.declared.breaking.Place.TheVariants.{Margin}
use Rattle.c_lines.proofs.breaking.print_broken.Given as goal

-- what is still to be written completes the whole
abbrev pub invariant-loop-letter : goal.invariant-loop-letter
invariant-loop-letter l = record {
  text : IsUtf8 (chars_rest l.letters);
  so_far :
      string_bytes l.out ++ encode_utf8_all (spec.broken_from l.place (chars (chars_rest l.letters)))
      ≡ string_bytes l.fn.out ++ encode_utf8_all (spec.broken_from (Margin spec.width) (chars l.text));
}
