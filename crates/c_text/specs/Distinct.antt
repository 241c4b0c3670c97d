-- When names are pairwise different, and which words C99 keeps for itself.
use Rattle.std.specs.Prelude.{◌≡◌, ℕ, ◌<◌, Bool, List, [], ◌∷◌, length, codes, slice_index_or}
use Rattle.std.specs.List.{list_any}
use Rattle.std.specs.Str.{bytes_eq}

-- no two of these are the same
abbrev pub AreDistinct : List (List ℕ) → Type 0
AreDistinct names = (i j : ℕ) → i < length names → j < length names
    → slice_index_or names i [] ≡ slice_index_or names j [] → i ≡ j

-- the keywords of C99 (6.4.1), and the words that its header for truth values defines (7.16)
abbrev pub keywords : List (List ℕ)
keywords =
    codes "auto" ∷ codes "break" ∷ codes "case" ∷ codes "char" ∷ codes "const" ∷ codes "continue" ∷ codes "default"
    ∷ codes "do" ∷ codes "double" ∷ codes "else" ∷ codes "enum" ∷ codes "extern" ∷ codes "float" ∷ codes "for"
    ∷ codes "goto" ∷ codes "if" ∷ codes "inline" ∷ codes "int" ∷ codes "long" ∷ codes "register" ∷ codes "restrict"
    ∷ codes "return" ∷ codes "short" ∷ codes "signed" ∷ codes "sizeof" ∷ codes "static" ∷ codes "struct"
    ∷ codes "switch" ∷ codes "typedef" ∷ codes "union" ∷ codes "unsigned" ∷ codes "void" ∷ codes "volatile"
    ∷ codes "while" ∷ codes "_Bool" ∷ codes "_Complex" ∷ codes "_Imaginary" ∷ codes "bool" ∷ codes "true"
    ∷ codes "false" ∷ []

-- whether a name is one of them
unfoldable pub is_keyword : List ℕ → Bool
is_keyword name = list_any (bytes_eq name) keywords
