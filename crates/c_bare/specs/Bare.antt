-- Functions without their parameters, where no statement needs what is handed over.
use Rattle.std.specs.Prelude.{◌≡◌, ℕ, suc, Bool, true, ◌&&◌, ◌||◌, not, List, [], ◌∷◌, length, Some, slice_get}
use Rattle.std.specs.Prelude.{if◌then◌else◌}
use Rattle.std.specs.List.{list_any}
use Rattle.c_subset.specs.declared.trees.Case.{Case}
use Rattle.c_subset.specs.declared.trees.Function as declared_function
use Rattle.c_subset.specs.Trees.{Function, File}
use Rattle.c_subset.specs.Trees.{Block, End, Set, Store, StoreAt, Call, Select, If, While, Return}
use Rattle.c_subset.specs.Lines.{IsFunction}
use Rattle.c_bare.specs.Needs.{is_bare, needs_none}

-- ---- when they may go

-- one of these cases calls a bare function
abbrev pub calls_bare : List Bool → List Case → Bool
calls_bare flags cases = list_any (λ (c : Case). is_bare flags c.function) cases

-- Whether no `switch` calls a bare function
unfoldable pub selects_no_bare : List Bool → Block → Bool
selects_no_bare flags End = true
selects_no_bare flags (Set t i e rest) = selects_no_bare flags rest
selects_no_bare flags (Store f e rest) = selects_no_bare flags rest
selects_no_bare flags (StoreAt a i e rest) = selects_no_bare flags rest
selects_no_bare flags (Call t i f args rest) = selects_no_bare flags rest
selects_no_bare flags (Select t i e cases args rest) = not (calls_bare flags cases) && selects_no_bare flags rest
selects_no_bare flags (If e a b rest) =
    selects_no_bare flags a && (selects_no_bare flags b && selects_no_bare flags rest)
selects_no_bare flags (While e a rest) = selects_no_bare flags a && selects_no_bare flags rest
selects_no_bare flags (Return e) = true

-- the function with a number needs none of its parameters, if it is bare, and no `switch` in it calls a bare one
abbrev pub is_needless : List Bool → ℕ → Function → Bool
is_needless flags p f =
    (not (is_bare flags p) || needs_none flags 0 f.parameters f.body) && selects_no_bare flags f.body

-- so it is with each of these functions
abbrev pub AreNeedless : List Bool → List Function → Type 0
AreNeedless flags fs = (p : ℕ) (f : Function) → slice_get fs p ≡ Some f → is_needless flags p f ≡ true

-- ---- without them

-- what is handed to a function
abbrev pub handed : List Bool → ℕ → {A : Type 0} → List A → List A
handed flags f xs = if is_bare flags f then [] else xs

-- Statements in which nothing is handed to a bare function
unfoldable pub fewer : List Bool → Block → Block
fewer flags End = End
fewer flags (Set t i e rest) = Set t i e (fewer flags rest)
fewer flags (Store f e rest) = Store f e (fewer flags rest)
fewer flags (StoreAt a i e rest) = StoreAt a i e (fewer flags rest)
fewer flags (Call t i f args rest) = Call t i f (handed flags f args) (fewer flags rest)
fewer flags (Select t i e cases args rest) = Select t i e cases args (fewer flags rest)
fewer flags (If e a b rest) = If e (fewer flags a) (fewer flags b) (fewer flags rest)
fewer flags (While e a rest) = While e (fewer flags a) (fewer flags rest)
fewer flags (Return e) = Return e

-- the function with a number: what was a parameter of a bare one is a local like others, with the same number
abbrev pub bared : List Bool → ℕ → Function → Function
bared flags p f = record {
  result = f.result;
  parameters = handed flags p f.parameters;
  body = fewer flags f.body;
}

-- functions from a number on
abbrev pub bared_from : List Bool → ℕ → List Function → List Function
bared_from flags p [] = []
bared_from flags p (f ∷ fs) = bared flags p f ∷ bared_from flags (suc p) fs

-- the file in which these functions are bare
abbrev pub with_bare : List Bool → File → File
with_bare flags file = record file { functions = bared_from flags 0 file.functions }

-- ---- functions of the code

-- there are as many functions of the code, and each has the lines of that with its number
pub record AreFunctions (fs : List declared_function.Function) (gs : List Function) : Type 0 where
  pub count : length fs ≡ length gs
  pub each : (i : ℕ) (f : declared_function.Function) (g : Function) → slice_get fs i ≡ Some f
      → slice_get gs i ≡ Some g → IsFunction f g
