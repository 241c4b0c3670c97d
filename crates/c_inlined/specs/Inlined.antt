-- A function in which bodies of other functions stand in place of calls of them.
use Rattle.std.specs.Prelude.{◌≡◌, ◌≢◌, ℕ, Bool, true, false, ◌&&◌, List, length, nat_lt, Some, slice_get, slice_set}
use Rattle.std.specs.Prelude.{if◌then◌else◌}
use Rattle.std.specs.List.{list_all}
use Rattle.c_subset.specs.declared.trees.CType.{CType}
use Rattle.c_subset.specs.declared.trees.Case.{Case}
use Rattle.c_subset.specs.declared.trees.Function as declared_function
use Rattle.c_subset.specs.Trees.{CExpr, Const, Field, Element, Local, Cast, Minus, Bang, Calc, Divide, Bits, Compare}
use Rattle.c_subset.specs.Trees.{Both, Either, Choose, Function, File}
use Rattle.c_subset.specs.Trees.{Block, End, Set, Store, StoreAt, Call, Select, If, While, Return}
use Rattle.c_subset.specs.Lines.{IsFunction}
use Rattle.c_subset.specs.Running.{same_type}
use Rattle.c_placing.specs.Placing.{placed, set_parameters}
use Rattle.c_inlined.specs.Continued.{before, can_go_on, continued}

-- ---- which locals are read

-- Whether an expression reads only locals with numbers below that one
unfoldable pub reads_below : ℕ → CExpr → Bool
reads_below n (Const t z) = true
reads_below n (Field f) = true
reads_below n (Element a e) = reads_below n e
reads_below n (Local t i) = nat_lt i n
reads_below n (Cast t e) = reads_below n e
reads_below n (Minus e) = reads_below n e
reads_below n (Bang e) = reads_below n e
reads_below n (Calc op a b) = reads_below n a && reads_below n b
reads_below n (Divide op a b) = reads_below n a && reads_below n b
reads_below n (Bits op a b) = reads_below n a && reads_below n b
reads_below n (Compare op a b) = reads_below n a && reads_below n b
reads_below n (Both a b) = reads_below n a && reads_below n b
reads_below n (Either a b) = reads_below n a && reads_below n b
reads_below n (Choose t e a b) = reads_below n e && (reads_below n a && reads_below n b)

-- each of these expressions does
abbrev pub all_read_below : ℕ → List CExpr → Bool
all_read_below n es = list_all (reads_below n) es

-- Whether statements do
unfoldable pub block_reads_below : ℕ → Block → Bool
block_reads_below n End = true
block_reads_below n (Set t i e rest) = reads_below n e && block_reads_below n rest
block_reads_below n (Store f e rest) = reads_below n e && block_reads_below n rest
block_reads_below n (StoreAt a i e rest) = reads_below n i && (reads_below n e && block_reads_below n rest)
block_reads_below n (Call t i f args rest) = all_read_below n args && block_reads_below n rest
block_reads_below n (Select t i e cases args rest) =
    reads_below n e && (all_read_below n args && block_reads_below n rest)
block_reads_below n (If e a b rest) =
    reads_below n e && (block_reads_below n a && (block_reads_below n b && block_reads_below n rest))
block_reads_below n (While e a rest) = reads_below n e && (block_reads_below n a && block_reads_below n rest)
block_reads_below n (Return e) = reads_below n e

-- ---- a body in place of a call

-- a value brought to the type of a function's result, before it is brought to another one
abbrev pub brought : CType → CType → CExpr → CExpr
brought result t e = if same_type result t then e else Cast result e

-- x = e; what is returned is brought to the function's type, and to that of x
abbrev pub set_result : CType → CType → ℕ → CExpr → Block
set_result result t i e = Set t i (brought result t e) End

-- f's parameters are set, and its body goes on with x = e; where it returns e
abbrev pub opened : ℕ → CType → ℕ → Function → List CExpr → Block → Block
opened n t i f args rest =
    set_parameters n 0 f.parameters args (before (continued (set_result f.result t i) (placed n f.body) End) rest)

-- f's parameters are set, and its body returns
abbrev pub handed_on : ℕ → Function → List CExpr → Block
handed_on n f args = set_parameters n 0 f.parameters args (placed n f.body)

-- ---- functions

module _ (functions : List Function) (p : ℕ) (result : CType) (n : ℕ) where
  -- In the second statements of function p, which returns a `result`, some calls are replaced by bodies of these
  -- functions, whose locals have numbers from n on
  pub data IsInlined : Block → Block → Type 0 where
    Ends : IsInlined End End
    Sets : (t : CType) (i : ℕ) (e : CExpr) (a a' : Block) → IsInlined a a' → IsInlined (Set t i e a) (Set t i e a')
    Stores : (f : ℕ) (e : CExpr) (a a' : Block) → IsInlined a a' → IsInlined (Store f e a) (Store f e a')
    StoresAt : (r : ℕ) (i e : CExpr) (a a' : Block) → IsInlined a a' → IsInlined (StoreAt r i e a) (StoreAt r i e a')
    -- a call that stays one
    Calls : (t : CType) (i f : ℕ) (args : List CExpr) (a a' : Block) → IsInlined a a'
        → IsInlined (Call t i f args a) (Call t i f args a')
    Selects : (t : CType) (i : ℕ) (e : CExpr) (cases : List Case) (args : List CExpr) (a a' : Block) → IsInlined a a'
        → IsInlined (Select t i e cases args a) (Select t i e cases args a')
    Asks : (e : CExpr) (a b c a' b' c' : Block) → IsInlined a a' → IsInlined b b' → IsInlined c c'
        → IsInlined (If e a b c) (If e a' b' c')
    Turns : (e : CExpr) (a b a' b' : Block) → IsInlined a a' → IsInlined b b' → IsInlined (While e a b) (While e a' b')
    Returning : (e : CExpr) → IsInlined (Return e) (Return e)
    -- a call of another function, whose body can go on where it returns
    Opened : (t : CType) (i f : ℕ) (g : Function) (args : List CExpr) (a a' : Block) → f ≢ p
        → slice_get functions f ≡ Some g → length args ≡ length g.parameters → can_go_on (placed n g.body) ≡ true
        → IsInlined a a' → IsInlined (Call t i f args a) (opened n t i g args a')
    -- a call whose result is returned right away, where both functions return the same type
    HandedOn : (i f : ℕ) (g : Function) (args : List CExpr) → f ≢ p
        → slice_get functions f ≡ Some g → length args ≡ length g.parameters → g.result ≡ result
        → IsInlined (Call result i f args (Return (Local result i))) (handed_on n g args)

-- The second function is the first one, function p of these, where calls in it are replaced by bodies. Their locals
-- have numbers above those of which the first one reads.
pub record IsInlinedFunction (functions : List Function) (p : ℕ) (f f' : Function) : Type 0 where
  pub result : f'.result ≡ f.result
  pub parameters : f'.parameters ≡ f.parameters
  pub base : ℕ
  pub below : block_reads_below base f.body ≡ true
  pub body : IsInlined functions p f.result base f.body f'.body

-- a function of the code is function p of these, where calls in it are replaced
abbrev pub IsMadeOf : List Function → ℕ → declared_function.Function → Type 0
IsMadeOf functions p made = (g : Function) → slice_get functions p ≡ Some g
    → (g' : Function) × IsFunction made g' × IsInlinedFunction functions p g g'

-- ---- files

-- the file with another function of that number
abbrev pub with_function : File → ℕ → Function → File
with_function file p f = record file { functions = slice_set file.functions p f }

-- one function of a file is inlined
pub record FileIsInlined (file : File) (p : ℕ) (f' : Function) : Type 0 where
  pub function : Function
  pub there : slice_get file.functions p ≡ Some function
  pub inlined : IsInlinedFunction file.functions p function f'
