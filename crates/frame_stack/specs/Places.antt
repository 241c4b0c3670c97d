-- Places, each of which is empty or holds a value.
use Rattle.std.specs.Prelude.{◌≡◌, ℕ, get_or, List, Option, Some, None}

module _ {X : Type 0} where
  -- the place at the index holds a value
  abbrev pub IsFilled : List (Option X) → ℕ → Type 0
  IsFilled cs i = (x : X) × (get_or cs i None ≡ Some x)
