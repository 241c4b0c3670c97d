-- The body of a function among the statements of another one: its parameters are set to the arguments first, and its
-- locals have numbers from a base on, above all those of which the other function reads.
use Rattle.std.specs.Prelude.{◌≡◌, ℕ, suc, ◌+◌, ◌≤◌, ◌<◌, ℤ, List, [], ◌∷◌, Some, map}
use Rattle.c_subset.specs.declared.trees.Width.{Width}
use Rattle.c_subset.specs.declared.trees.CType.{CType}
use Rattle.c_subset.specs.Trees.{CExpr, Const, Field, Element, Local, Cast, Minus, Bang, Calc, Divide, Bits, Compare}
use Rattle.c_subset.specs.Trees.{Both, Either, Choose}
use Rattle.c_subset.specs.Trees.{Block, End, Set, Store as PutField, StoreAt, Call, Select, If, While, Return}
use Rattle.c_subset.specs.Meaning.{CValue, Store, Locals}
use Rattle.c_subset.specs.Running.{Outcome, Falls, Returns, Calls, outcome}

-- ---- other numbers

-- An expression whose locals have numbers from a base on
unfoldable pub placed_expr : ℕ → CExpr → CExpr
placed_expr n (Const t z) = Const t z
placed_expr n (Field f) = Field f
placed_expr n (Element a e) = Element a (placed_expr n e)
placed_expr n (Local t i) = Local t (n + i)
placed_expr n (Cast t e) = Cast t (placed_expr n e)
placed_expr n (Minus e) = Minus (placed_expr n e)
placed_expr n (Bang e) = Bang (placed_expr n e)
placed_expr n (Calc op a b) = Calc op (placed_expr n a) (placed_expr n b)
placed_expr n (Divide op a b) = Divide op (placed_expr n a) (placed_expr n b)
placed_expr n (Bits op a b) = Bits op (placed_expr n a) (placed_expr n b)
placed_expr n (Compare op a b) = Compare op (placed_expr n a) (placed_expr n b)
placed_expr n (Both a b) = Both (placed_expr n a) (placed_expr n b)
placed_expr n (Either a b) = Either (placed_expr n a) (placed_expr n b)
placed_expr n (Choose t e a b) = Choose t (placed_expr n e) (placed_expr n a) (placed_expr n b)

-- expressions
abbrev pub placed_exprs : ℕ → List CExpr → List CExpr
placed_exprs n es = map (placed_expr n) es

-- Statements
unfoldable pub placed : ℕ → Block → Block
placed n End = End
placed n (Set t i e rest) = Set t (n + i) (placed_expr n e) (placed n rest)
placed n (PutField f e rest) = PutField f (placed_expr n e) (placed n rest)
placed n (StoreAt a i e rest) = StoreAt a (placed_expr n i) (placed_expr n e) (placed n rest)
placed n (Call t i f args rest) = Call t (n + i) f (placed_exprs n args) (placed n rest)
placed n (Select t i e cases args rest) =
    Select t (n + i) (placed_expr n e) cases (placed_exprs n args) (placed n rest)
placed n (If e a b rest) = If (placed_expr n e) (placed n a) (placed n b) (placed n rest)
placed n (While e a rest) = While (placed_expr n e) (placed n a) (placed n rest)
placed n (Return e) = Return (placed_expr n e)

-- x0 = e0; x1 = e1; .. before other statements: the parameters of these types are set, from number k after the base on
unfoldable pub set_parameters : ℕ → ℕ → List CType → List CExpr → Block → Block
set_parameters n k [] es rest = rest
set_parameters n k (t ∷ ts) [] rest = rest
set_parameters n k (t ∷ ts) (e ∷ es) rest = Set t (n + k) e (set_parameters n (suc k) ts es rest)

-- ---- what they do

-- each local that has a value in the first has it in the second under its new number; other locals there may have any
abbrev pub HasPlaced : ℕ → Locals → Locals → Type 0
HasPlaced n l m = (t : CType) (i : ℕ) (z : ℤ) → l t i ≡ Some z → m t (n + i) ≡ Some z

-- the locals with numbers below a base are the same
abbrev pub AgreeBelow : ℕ → Locals → Locals → Type 0
AgreeBelow n l m = (t : CType) (i : ℕ) → i < n → l t i ≡ m t i

-- what a call returns with the first calls it returns with the second ones
abbrev pub ReturnAlike : Calls → Calls → Type 0
ReturnAlike c d = (f : ℕ) (xs : List CValue) (s after : Store) (x : CValue) → c f xs s ≡ Returns after x
    → d f xs s ≡ Returns after x

-- Where statements return, the placed ones return the same and leave the same struct; where they fall through, the placed
-- ones do, with locals that have theirs. They may have more turns of `while`.
abbrev pub PlacedDoTheSame : Type 0
PlacedDoTheSame = (n : ℕ) (int : Width) (c d : Calls) (k j : ℕ) (a : Block) (s after : Store) (l m : Locals)
    → ReturnAlike c d → k ≤ j → HasPlaced n l m
    → ((x : CValue) → outcome int c k a s l ≡ Returns after x → outcome int d j (placed n a) s m ≡ Returns after x)
    × ((l' : Locals) → outcome int c k a s l ≡ Falls after l'
    → (m' : Locals) × (outcome int d j (placed n a) s m ≡ Falls after m') × HasPlaced n l' m')

-- Where placed statements fall through, the locals below the base are as before
abbrev pub OthersAreAsBefore : Type 0
OthersAreAsBefore = (n : ℕ) (int : Width) (calls : Calls) (k : ℕ) (a : Block) (s after : Store) (l m : Locals)
    → outcome int calls k (placed n a) s l ≡ Falls after m → AgreeBelow n l m
