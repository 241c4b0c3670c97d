-- A text cut into its whole lines, and how a fault names one.
use Rattle.std.specs.Prelude.{ℕ, nat_eq, List, [], ◌∷◌, ◌++◌, Option, Some, None, codes, decimal, if◌then◌else◌}

-- the whole lines of a text, each without its newline, and what stands after the last newline
pub record Cut : Type 0 where
  pub lines : List (List ℕ)
  pub rest : List ℕ

-- a byte at the front of the first line, or of the rest where there is no line
abbrev pub begun_with : ℕ → List (List ℕ) → List ℕ → Cut
begun_with b [] rest = record { lines = []; rest = b ∷ rest }
begun_with b (line ∷ lines) rest = record { lines = (b ∷ line) ∷ lines; rest = rest }

-- a line before the others
abbrev pub line_then : List ℕ → Cut → Cut
line_then line cut = record { lines = line ∷ cut.lines; rest = cut.rest }

-- the text cut after each newline
abbrev pub cut_of : List ℕ → Cut
cut_of [] = record { lines = []; rest = [] }
cut_of (b ∷ text) =
    if nat_eq b 10 then line_then [] (cut_of text)
    else begun_with b (cut_of text).lines (cut_of text).rest

-- the number of a line after a space
abbrev pub line_words : Option ℕ → List ℕ
line_words None = []
line_words (Some line) = codes " " ++ decimal line
