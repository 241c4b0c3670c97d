-- How the functions that are reached are found: in passes over the calls of a file, until one finds nothing new. Only
-- the contracts of these passes say this; what they find is what is reached.
use Rattle.std.specs.Prelude.{◌≡◌, ℕ, ◌&&◌, ◌||◌, not, Bool, true, false, List, [], ◌∷◌, length}
use Rattle.std.specs.Prelude.{slice_index_or, slice_set, if◌then◌else◌}
use Rattle.c_file.specs.declared.calls.FunctionCall.{FunctionCall}
use Rattle.c_file.specs.Reached.{IsReached, IsFlagged}

-- the call is one of a function whose flag is set, and leads to one whose flag isn't
abbrev pub is_new : List Bool → FunctionCall → Bool
is_new flags call = slice_index_or flags call.caller false && not (slice_index_or flags call.callee true)

-- flags after a call
abbrev pub followed : List Bool → FunctionCall → List Bool
followed flags call = if is_new flags call then slice_set flags call.callee true else flags

-- flags after calls, one after the other
abbrev pub passed : List Bool → List FunctionCall → List Bool
passed flags [] = flags
passed flags (call ∷ calls) = passed (followed flags call) calls

-- one of the calls leads to a function whose flag isn't set yet
abbrev pub finds_new : List Bool → List FunctionCall → Bool
finds_new flags [] = false
finds_new flags (call ∷ calls) = is_new flags call || finds_new (followed flags call) calls

-- The flags that were set are set; where these were of reached functions, so are those that are set; no call leads to a
-- function whose flag isn't set.
pub record Closes (calls : List FunctionCall) (old new : List Bool) : Type 0 where
  pub size : length new ≡ length old
  pub kept : (f : ℕ) → IsFlagged old f → IsFlagged new f
  pub sound : (outside : ℕ → Bool) → ((f : ℕ) → IsFlagged old f → IsReached (length old) outside calls f)
      → (f : ℕ) → IsFlagged new f → IsReached (length old) outside calls f
  pub closed : finds_new new calls ≡ false
