-- How many functions of a file are open at once, where none of them calls itself.
use Rattle.std.specs.Prelude.{◌≡◌, ◌<◌, ◌≤◌, ℕ, ◌||◌, not, nat_lt, Bool, true, false, List, [], ◌∷◌, length}
use Rattle.std.specs.Prelude.{slice_get, slice_index_or, Some}
use Rattle.c_subset.specs.Trees.{Function}
use Rattle.c_text.specs.Labels.{Labels}
use Rattle.c_file.specs.declared.calls.FunctionCall.{FunctionCall}
use Rattle.c_file.specs.Calls.{call_to, calls_from}
use Rattle.c_file.specs.Reached.{outside_of}

-- one of the calls is of function g by function f, and there are more than g functions
pub record IsCallOf (count : ℕ) (calls : List FunctionCall) (f g : ℕ) : Type 0 where
  pub place : ℕ
  pub there : slice_get calls place ≡ Some (call_to f g)
  pub within : g < count

-- these may be open besides function f, each of them called by the one before it
abbrev pub AreOpenAfter : ℕ → List FunctionCall → ℕ → List ℕ → Type 0
AreOpenAfter count calls f [] = Unit {0}
AreOpenAfter count calls f (g ∷ gs) = IsCallOf count calls f g × AreOpenAfter count calls g gs

-- No more functions of a file than so many are open at once, from one on that is called from outside. So no function
-- that is reached calls itself, by way of others either: such calls could go on.
abbrev pub HasMostOpen : Labels → List Function → ℕ → Type 0
HasMostOpen L functions n =
    (f : ℕ) (gs : List ℕ) → f < length functions → outside_of L f ≡ true
    → AreOpenAfter (length functions) (calls_from 0 functions) f gs → length (f ∷ gs) ≤ n

-- a call by a function that is reached leads to one of lower height
abbrev pub leads_down : List Bool → List ℕ → FunctionCall → Bool
leads_down reached heights call =
    not (slice_index_or reached call.caller false)
    || nat_lt (slice_index_or heights call.callee 0) (slice_index_or heights call.caller 0)
