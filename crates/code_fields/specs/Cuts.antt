-- A text cut at a byte.
use Rattle.std.specs.Prelude.{ℕ, nat_eq, List, [], ◌∷◌, ◌++◌, Option, Some, None, option_map, if◌then◌else◌}

-- what stands before a byte and after it
pub record Parts : Type 0 where
  pub front : List ℕ
  pub rest : List ℕ

-- the parts with one more byte at the front
abbrev pub parts_with : ℕ → Parts → Parts
parts_with b parts = record { front = b ∷ parts.front; rest = parts.rest }

-- the parts before and after the first byte that is this one, if there is one
abbrev pub parts_at : ℕ → List ℕ → Option Parts
parts_at byte [] = None
parts_at byte (b ∷ text) =
    if nat_eq b byte then Some (record { front = []; rest = text }) else option_map (parts_with b) (parts_at byte text)

-- a word, and what stands after the space that follows it, if a space follows
pub record Field : Type 0 where
  pub word : List ℕ
  pub rest : Option (List ℕ)

-- the word of a text cut at a space, or of one without a space
abbrev pub field_at : List ℕ → Option Parts → Field
field_at text None = record { word = text; rest = None }
field_at text (Some parts) = record { word = parts.front; rest = Some parts.rest }

-- the first word of a text
unfoldable pub field_of : List ℕ → Field
field_of text = field_at text (parts_at 32 text)

-- a word and what follows it
abbrev pub joined : List ℕ → Option (List ℕ) → List ℕ
joined word None = word
joined word (Some rest) = word ++ (32 ∷ rest)
