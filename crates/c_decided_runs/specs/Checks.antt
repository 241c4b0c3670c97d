-- How it is checked that a plan fits together between events.
use Rattle.std.specs.Prelude.{ℕ, nat_le, Bool, true, false, List, [], ◌∷◌, Option, Some, None, slice_get}
use Rattle.std.specs.Prelude.{◌≡◌, length, map, if◌then◌else◌}
use Rattle.c_subset.specs.declared.trees.CType.{CType}
use Rattle.c_subset.specs.declared.trees.CType.TheVariants.{Unsigned}
use Rattle.c_subset.specs.Meaning.{CValue}
use Rattle.c_subset.specs.Running.{same_type}
use Rattle.c_functions.specs.Plans.{Shape, init_function, start_function, react_function}
use Rattle.c_functions.specs.Starts.{first_values}
use Rattle.c_facts.specs.Known.{Sets, Anything, OneOf, Row, Known, Never, Rows, field_of}
use Rattle.c_facts.specs.Facts.{covers}
use Rattle.c_decided.specs.Decided.{Plan}
use Rattle.c_decided_runs.specs.Runs.{where_true}

-- ---- what is known of a struct of the file's type

-- nothing is known of the number
abbrev pub is_anything : Sets → Bool
is_anything Anything = true
is_anything (OneOf on off) = false

-- it is that type
abbrev pub is_type : CType → Option CType → Bool
is_type t None = false
is_type t (Some u) = same_type u t

-- nothing is known but the types of fields, which are these
abbrev pub rows_typed : List CType → List Row → Bool
rows_typed types [] = true
rows_typed types (r ∷ rs) =
    if is_anything r.sets
    then (if is_type (Unsigned r.width) (slice_get types (field_of r.place)) then rows_typed types rs else false)
    else false

abbrev pub is_typed : List CType → Known → Bool
is_typed types Never = false
is_typed types (Rows rs) = rows_typed types rs

-- ---- what is known of fields from a number on

abbrev pub rows_above : ℕ → List Row → Bool
rows_above n [] = true
rows_above n (r ∷ rs) =
    if nat_le n (field_of r.place)
    then (if nat_le n (field_of r.home.place) then rows_above n rs else false)
    else false

-- nothing is known of fields below the number
abbrev pub is_above : ℕ → Known → Bool
is_above n Never = true
is_above n (Rows rs) = rows_above n rs

-- ---- the plan

module _ (P : Plan) (init start react vars : ℕ) (types : List CType) where
  -- what is checked, where the functions that are called from outside have these numbers, so many fields are data, and
  -- fields have these types
  pub record IsChecked : Type 0 where
    pub unset : is_typed types (P.begins init) ≡ true
    pub first : covers (where_true (P.leaves init)) (P.begins start) ≡ true
    pub started : covers (where_true (P.leaves start)) (P.begins react) ≡ true
    pub reacted : covers (where_true (P.leaves react)) (P.begins react) ≡ true
    pub given : is_above vars (P.begins start) ≡ true
    pub given_again : is_above vars (P.begins react) ≡ true
    pub start_stays : P.stays start ≡ true
    pub react_stays : P.stays react ≡ true

-- so it is with the file of that shape
abbrev pub ShapeIsChecked : Shape → Plan → Type 0
ShapeIsChecked K P =
    IsChecked P (init_function K) (start_function K) (react_function K) (length K.names.vars)
    (map (λ (x : CValue). x.type) (first_values K))
