-- What C reads of a text before it looks for words: lines are joined (5.1.1.2 p1, 2), and between words it doesn't matter how
-- many blanks and ends of lines stand (3), but for the lines that begin with `#` (4). The text is a list of letters.
use Rattle.std.specs.Prelude.{ℕ, ◌==◌, Bool, true, false, List, [], ◌∷◌, if◌then◌else◌}
use Rattle.c_lines.specs.Broken.{is_blank, is_quote}

-- each backslash at the end of a line is deleted, with that end; true: one was read, and what follows tells
abbrev pub joined_from : Bool → List ℕ → List ℕ
joined_from false [] = []
joined_from true [] = 92 ∷ []
joined_from false (c ∷ rest) = if c == 92 then joined_from true rest else c ∷ joined_from false rest
joined_from true (c ∷ rest) =
    if c == 10 then joined_from false rest
    else 92 ∷ (if c == 92 then joined_from true rest else c ∷ joined_from false rest)

-- where a letter stands: after blanks alone, in a word, after a blank between words, or in what stays as it is
pub data Where : Type 0 where
  AtStart : Where
  InWord : Where
  InGap : Where
  InWhole : Where

-- after a letter of a word
abbrev pub in_word : ℕ → Where
in_word c = if is_quote c then InWhole else InWord

-- A text from such a place on: each row of blanks and ends of lines is one blank, but a line that begins with `#` stays
-- as it is, between ends of lines, and so does the rest of a line from a quote on
abbrev pub read_from : Where → List ℕ → List ℕ
read_from place [] = []
read_from AtStart (c ∷ rest) =
    if is_blank c then read_from AtStart rest
    else (if c == 35 then 10 ∷ c ∷ read_from InWhole rest else c ∷ read_from (in_word c) rest)
read_from InWord (c ∷ rest) =
    if c == 10 then 32 ∷ read_from AtStart rest
    else (if c == 32 then 32 ∷ read_from InGap rest else c ∷ read_from (in_word c) rest)
read_from InGap (c ∷ rest) =
    if c == 10 then read_from AtStart rest
    else (if c == 32 then read_from InGap rest else c ∷ read_from (in_word c) rest)
read_from InWhole (c ∷ rest) = if c == 10 then 10 ∷ read_from AtStart rest else c ∷ read_from InWhole rest

-- what C reads of a text
unfoldable pub read : List ℕ → List ℕ
read text = read_from AtStart (joined_from false text)
