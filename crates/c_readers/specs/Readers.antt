-- Which functions only read the struct.
use Rattle.std.specs.Prelude.{◌≡◌, ℕ, Bool, true, false, List, [], ◌∷◌, ◌++◌, map, Some, slice_get}
use Rattle.std.specs.List.{All, list_any}
use Rattle.c_subset.specs.Trees.{Function}
use Rattle.c_subset.specs.declared.trees.Case.{Case}
use Rattle.c_subset.specs.Lines.{Line, Set, Store, StoreAt, Call, Select, If, Else, While, Close, Return, lines_of}

-- a line stores in the struct
abbrev pub line_stores : Line → Bool
line_stores (Set t k e) = false
line_stores (Store f e) = true
line_stores (StoreAt a i e) = true
line_stores (Call t k f args) = false
line_stores (Select t k e cases args) = false
line_stores (If e) = false
line_stores Else = false
line_stores (While e) = false
line_stores Close = false
line_stores (Return e) = false

-- the functions that a line calls
abbrev pub line_callees : Line → List ℕ
line_callees (Set t k e) = []
line_callees (Store f e) = []
line_callees (StoreAt a i e) = []
line_callees (Call t k f args) = f ∷ []
line_callees (Select t k e cases args) = map (λ (c : Case). c.function) cases
line_callees (If e) = []
line_callees Else = []
line_callees (While e) = []
line_callees Close = []
line_callees (Return e) = []

-- those that lines call
abbrev pub callees : List Line → List ℕ
callees [] = []
callees (x ∷ xs) = line_callees x ++ callees xs

-- a line of the function stores in the struct
abbrev pub stores : Function → Bool
stores g = list_any line_stores (lines_of g.body)

-- functions that are told to only read the struct do: none of them stores in it, and they call only such functions
pub record OnlyRead (functions : List Function) (only_reads : ℕ → Bool) : Type 0 where
  pub stores_nothing : (f : ℕ) (g : Function) → slice_get functions f ≡ Some g → only_reads f ≡ true
      → stores g ≡ false
  pub calls : (f : ℕ) (g : Function) → slice_get functions f ≡ Some g → only_reads f ≡ true
      → All (λ h. only_reads h ≡ true) (callees (lines_of g.body))
