use Rattle.std.proofs.Common.{◌≡◌, IsUtf8, chars}
use Rattle.std.specs.Str.Iter.{chars_rest}
use Rattle.c_lines.specs.Broken as spec
use Rattle.c_lines.proofs.breaking.fits.Given as goal

-- whether what stays together ends in time is told by what is left
abbrev pub invariant-loop-letter : goal.invariant-loop-letter
invariant-loop-letter l = record {
  text : IsUtf8 (chars_rest l.letter-iterator);
  same : spec.fits_from l.ahead l.left (chars (chars_rest l.letter-iterator)) ≡ spec.fits l.room (chars l.rest);
}
