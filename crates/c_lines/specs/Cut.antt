-- What is too long for a line and has no blank is cut: by a backslash at the end of a line, which C deletes with it
-- (5.1.1.2 p1, 2). The text is a list of letters.
use Rattle.std.specs.Prelude.{ℕ, zero, suc, ◌-◌, ◌==◌, List, [], ◌∷◌, ◌++◌, if◌then◌else◌}

-- how many letters a line has at most before it is cut
abbrev pub longest : ℕ
longest = 508

-- what is written for a letter where so many letters fit
abbrev pub cut_text : ℕ → ℕ → List ℕ
cut_text zero c = if c == 10 then c ∷ [] else 92 ∷ 10 ∷ c ∷ []
cut_text (suc room) c = c ∷ []

-- how many letters fit after it
abbrev pub room_after : ℕ → ℕ → ℕ
room_after zero c = if c == 10 then longest else longest - 1
room_after (suc room) c = if c == 10 then longest else room

-- a text from there on
abbrev pub cut_from : ℕ → List ℕ → List ℕ
cut_from room [] = []
cut_from room (c ∷ rest) = cut_text room c ++ cut_from (room_after room c) rest

-- a text with its lines cut
unfoldable pub cut : List ℕ → List ℕ
cut text = cut_from longest text
