-- Which functions of a file may change the struct. The struct is const in the heads of the others.
use Rattle.std.specs.Prelude.{ℕ, ◌+◌, ◌||◌, not, Bool, true, false, List, [], ◌∷◌, ◌++◌, length, slice_index_or}
use Rattle.c_subset.specs.Trees.{Function}
use Rattle.c_text.specs.Labels.{Labels}
use Rattle.c_readers.specs.Readers.{stores}
use Rattle.c_file.specs.declared.calls.FunctionCall.{FunctionCall}
use Rattle.c_file.specs.Calls.{call_to, calls_from}
use Rattle.c_file.specs.Reached.{AreExactly, IsReached, outside_of}

-- of each function, from number f on, whether it stores in the struct, or is called from outside: the header declares such
-- a function with a struct that isn't const
abbrev pub first_changes : Labels → ℕ → List Function → List Bool
first_changes L f [] = []
first_changes L f (g ∷ gs) = (outside_of L f || stores g) ∷ first_changes L (f + 1) gs

-- one of these functions has its flag set there
abbrev pub is_first : Labels → List Function → ℕ → Bool
is_first L functions f = slice_index_or (first_changes L 0 functions) f false

-- calls from the function that is called to the one that calls, the last one first
abbrev pub turned_round : List FunctionCall → List FunctionCall
turned_round [] = []
turned_round (call ∷ calls) = turned_round calls ++ call_to call.callee call.caller ∷ []

-- a function may change the struct: it stores there or is called from outside, or calls one that may change it
abbrev pub MayChange : Labels → List Function → ℕ → Type 0
MayChange L functions =
    IsReached (length functions) (is_first L functions) (turned_round (calls_from 0 functions))

-- the flags say exactly which functions of a file may
abbrev pub AreChanging : Labels → List Function → List Bool → Type 0
AreChanging L functions flags =
    AreExactly (length functions) (is_first L functions) (turned_round (calls_from 0 functions)) flags

-- a function only reads the struct: its flag isn't set
abbrev pub only_reads : List Bool → ℕ → Bool
only_reads changing f = not (slice_index_or changing f false)
