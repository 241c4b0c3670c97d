-- One of a list is changed, and the others stay.
use Rattle.std.specs.Prelude.{◌≡◌, ℕ, List, Some, slice_get, slice_set}

-- the one of that number is changed so, and all others stay
pub record ChangesAt {S : Type 0} (old new : List S) (c : ℕ) (Change : S → S → Type 0) : Type 0 where
  pub before : S
  pub after : S
  pub there : slice_get old c ≡ Some before
  pub is : new ≡ slice_set old c after
  pub change : Change before after

-- the one of that number, where there is one, has that
abbrev pub At : {S : Type 0} → List S → ℕ → (S → Type 0) → Type 0
At {S} all c Has = (s : S) → slice_get all c ≡ Some s → Has s
