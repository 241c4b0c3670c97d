-- Names in lists of names.
use Rattle.std.specs.Prelude.{ℕ, ◌+◌, Bool, true, not, ◌&&◌, List, [], ◌∷◌, Option, Some, None, is_some, if◌then◌else◌}
use Rattle.std.specs.Str.{bytes_eq}

-- the next number, where there is a number
abbrev pub after : Option ℕ → Option ℕ
after None = None
after (Some n) = Some (n + 1)

-- the place of the first name that is this one, counted from 0
abbrev pub index_of : List ℕ → List (List ℕ) → Option ℕ
index_of name [] = None
index_of name (first ∷ rest) = if bytes_eq first name then Some 0 else after (index_of name rest)

-- the names are pairwise different
abbrev pub are_distinct : List (List ℕ) → Bool
are_distinct [] = true
are_distinct (name ∷ rest) = not (is_some (index_of name rest)) && are_distinct rest
