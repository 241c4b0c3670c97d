-- Tables of names and their numbers.
use Rattle.std.specs.Prelude.{◌≡◌, ℕ, List, [], ◌∷◌, map, Option, Some, None}
use Rattle.std.specs.Prelude.{if◌then◌else◌, String, string_bytes, IsUtf8}
use Rattle.std.specs.Global.{Global}
use Rattle.std.specs.Str.{bytes_eq}

-- a name with its number
pub record Numbered : Type 0 where
  pub name : List ℕ
  pub number : ℕ

-- the entries of a map from names to numbers
abbrev pub numbered : List (String Global × ℕ) → List Numbered
numbered entries = map (λ (e : String Global × ℕ). record { name = string_bytes e.0; number = e.1 }) entries

-- the number of a name, if the table has the name
abbrev pub number_in : List Numbered → List ℕ → Option ℕ
number_in [] name = None
number_in (x ∷ table) name = if bytes_eq x.name name then Some x.number else number_in table name

-- the first number, or where there is none the second
abbrev pub or_else : Option ℕ → Option ℕ → Option ℕ
or_else (Some number) other = Some number
or_else None other = other

-- the number of a name after one name more was kept, which changes nothing where the table had it
abbrev pub number_after : List Numbered → List ℕ → ℕ → List ℕ → Option ℕ
number_after table kept number name = or_else (number_in table name) (if bytes_eq kept name then Some number else None)

-- each name of the table is a text
abbrev pub HasTexts : List Numbered → Type 0
HasTexts table = (name : List ℕ) → ¬ IsUtf8 name → number_in table name ≡ None
