-- The order in which the functions of a source stand, and which of them are called before they stand.
use Rattle.std.specs.Prelude.{◌≡◌, ◌==◌, ◌&&◌, ◌||◌, ◌+◌, ◌<◌, not, ℕ, Bool, false, List, [], ◌∷◌, Option, filter, slice_get}
use Rattle.std.specs.Prelude.{if◌then◌else◌}
use Rattle.std.specs.List.{All, list_any}
use Rattle.std.specs.Option.{option_map_or}
use Rattle.c_subset.specs.Trees.{Function}
use Rattle.c_subset.specs.Lines.{lines_of}
use Rattle.c_text.specs.Labels.{Labels}
use Rattle.c_file.specs.declared.calls.FunctionCall.{FunctionCall}
use Rattle.c_file.specs.Calls.{calls_in}
use Rattle.c_file.specs.Reached.{is_written, outside_of}

-- how often a number stands in a list
abbrev pub times : ℕ → List ℕ → ℕ
times f [] = 0
times f (g ∷ gs) = (if g == f then 1 else 0) + times f gs

-- each function that is written stands in the order once, and no other one stands there
abbrev pub IsOrder : List Bool → List ℕ → Type 0
IsOrder written order = (f : ℕ) → times f order ≡ (if is_written written f then 1 else 0)

-- the numbers in a list are below a number
abbrev pub AreBelow : ℕ → List ℕ → Type 0
AreBelow n order = All (λ (f : ℕ). f < n) order

-- the calls of the function that has a number in a file
abbrev pub calls_by : List Function → ℕ → List FunctionCall
calls_by functions f = option_map_or (λ (g : Function). calls_in f (lines_of g.body)) (slice_get functions f) []

-- one of the calls is one of function g
abbrev pub is_called : ℕ → List FunctionCall → Bool
is_called g calls = list_any (λ (call : FunctionCall). call.callee == g) calls

-- Function g is called before it stands in the order: one of those that stand before it calls it. In its own body it has
-- been declared (6.2.1 p7)
unfoldable pub is_early : List Function → List ℕ → ℕ → Bool
is_early functions [] g = false
is_early functions (f ∷ fs) g = not (f == g) && (is_called g (calls_by functions f) || is_early functions fs g)

-- those that are declared before all functions; the header declares those that are called from outside
abbrev pub declared_in : Labels → List Function → List ℕ → List ℕ
declared_in L functions order = filter (λ g. is_early functions order g && not (outside_of L g)) order
