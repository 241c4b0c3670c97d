use Rattle.std.proofs.Common.{◌≡◌, ◌++◌, IsUtf8, chars, encode_utf8_all, string_bytes}
use Rattle.std.specs.Str.Iter.{chars_rest}
use Rattle.c_lines.specs.Cut as spec
use Rattle.c_lines.proofs.cutting.print_cut.Given as goal

-- what is still to be written completes the whole
abbrev pub invariant-loop-letter : goal.invariant-loop-letter
invariant-loop-letter l = record {
  text : IsUtf8 (chars_rest l.letter-iterator);
  so_far :
      string_bytes l.out ++ encode_utf8_all (spec.cut_from l.room (chars (chars_rest l.letter-iterator)))
      ≡ string_bytes l.fn.out ++ encode_utf8_all (spec.cut_from spec.longest (chars l.text));
}
