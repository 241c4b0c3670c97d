-- Which functions of a file are reached.
use Rattle.std.specs.Prelude.{◌≡◌, ◌<◌, ℕ, Bool, true, false, List, length, Some, slice_get, slice_index_or}
use Rattle.c_subset.specs.Trees.{Function}
use Rattle.c_text.specs.declared.kinds.Kind.{Kind}
use Rattle.c_text.specs.declared.kinds.Kind.TheVariants.{Procedure, Home, Noted, Floor, Outside}
use Rattle.c_text.specs.Labels.{Labels, function_kind}
use Rattle.c_file.specs.declared.calls.FunctionCall.{FunctionCall}
use Rattle.c_file.specs.Calls.{calls_from}

-- a function that is called from outside
abbrev pub is_outside : Kind → Bool
is_outside Procedure = false
is_outside Home = false
is_outside Noted = false
is_outside (Floor w) = false
is_outside Outside = true

-- one of so many functions is reached: it is called from outside, or by one that is reached
pub data IsReached (count : ℕ) (outside : ℕ → Bool) (calls : List FunctionCall) : ℕ → Type 0 where
  ReachedFromOutside : (f : ℕ) → f < count → outside f ≡ true → IsReached count outside calls f
  ReachedByCall : (i g : ℕ) (call : FunctionCall) → slice_get calls i ≡ Some call → g ≡ call.callee → g < count
      → IsReached count outside calls call.caller → IsReached count outside calls g

-- a function is written where it is reached; written has a flag for each function
abbrev pub is_written : List Bool → ℕ → Bool
is_written written f = slice_index_or written f false

-- a function has its flag set
abbrev pub IsFlagged : List Bool → ℕ → Type 0
IsFlagged flags f = slice_index_or flags f false ≡ true

-- the function that has that number in a file is called from outside
abbrev pub outside_of : Labels → ℕ → Bool
outside_of L f = is_outside (function_kind L f)

-- the flags of so many functions are set from which others are reached
pub record AreStarting (count : ℕ) (outside : ℕ → Bool) (flags : List Bool) : Type 0 where
  pub size : length flags ≡ count
  pub each : (f : ℕ) → f < count → slice_index_or flags f false ≡ outside f

-- the flags of those functions are set that are called from outside
abbrev pub AreOutside : Labels → ℕ → List Bool → Type 0
AreOutside L count flags = AreStarting count (outside_of L) flags

-- the flags say exactly which of so many functions are reached
pub record AreExactly (count : ℕ) (outside : ℕ → Bool) (calls : List FunctionCall) (flags : List Bool) : Type 0 where
  pub size : length flags ≡ count
  pub sound : (f : ℕ) → IsFlagged flags f → IsReached count outside calls f
  pub complete : (f : ℕ) → IsReached count outside calls f → IsFlagged flags f

-- the flags say exactly which functions of a file are reached
abbrev pub AreReached : Labels → List Function → List Bool → Type 0
AreReached L functions flags = AreExactly (length functions) (outside_of L) (calls_from 0 functions) flags
