-- A text whose lines aren't too long.
use Rattle.std.specs.Prelude.{◌≡◌, ℕ, zero, suc, ◌==◌, Bool, true, false, List, [], ◌∷◌, chars, encode_utf8_all}
use Rattle.std.specs.Prelude.{if◌then◌else◌}
use Rattle.c_lines.specs.Broken.{broken}
use Rattle.c_lines.specs.Cut.{cut}
use Rattle.c_lines.specs.Reading.{read}

-- the text, with its lines broken, and cut where that isn't enough
unfoldable pub wrapped : List ℕ → List ℕ
wrapped text = encode_utf8_all (cut (broken (chars text)))

-- before the end of this line there are so many letters at most, and in each line after it 509
abbrev pub are_short_from : ℕ → List ℕ → Bool
are_short_from room [] = true
are_short_from zero (c ∷ rest) = if c == 10 then are_short_from 509 rest else false
are_short_from (suc room) (c ∷ rest) = if c == 10 then are_short_from 509 rest else are_short_from room rest

-- no line has more than 509 letters
unfoldable pub has_short_lines : List ℕ → Bool
has_short_lines text = are_short_from 509 (chars text)

-- the second text is the first one in lines: with its lines broken and cut, so that none has more than 509 letters, and
-- C reads the same of both
pub record IsInLines (text made : List ℕ) : Type 0 where
  pub is_wrapped : made ≡ wrapped text
  pub are_short : has_short_lines made ≡ true
  pub reads_same : read (chars made) ≡ read (chars text)
