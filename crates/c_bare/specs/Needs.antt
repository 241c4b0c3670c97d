-- Which locals statements may read before they set them.
use Rattle.std.specs.Prelude.{ℕ, suc, ◌==◌, Bool, true, false, ◌&&◌, ◌||◌, not, List, [], ◌∷◌, slice_index_or}
use Rattle.std.specs.List.{list_any}
use Rattle.c_subset.specs.declared.trees.CType.{CType}
use Rattle.c_subset.specs.Trees.{CExpr, Const, Field, Element, Local, Cast, Minus, Bang, Calc, Divide}
use Rattle.c_subset.specs.Trees.{Bits, Compare, Both, Either, Choose}
use Rattle.c_subset.specs.Trees.{Block, End, Set, Store, StoreAt, Call, Select, If, While, Return}
use Rattle.c_subset.specs.Running.{same_type}

-- a flag for each function tells whether it is bare: whether it goes without its parameters
abbrev pub is_bare : List Bool → ℕ → Bool
is_bare flags f = slice_index_or flags f false

-- it is the local of a type with a number
abbrev pub is_it : CType → ℕ → CType → ℕ → Bool
is_it t i u j = (i == j) && same_type t u

-- Whether an expression names a local
unfoldable pub reads : CType → ℕ → CExpr → Bool
reads t i (Const u z) = false
reads t i (Field f) = false
reads t i (Element a e) = reads t i e
reads t i (Local u j) = is_it t i u j
reads t i (Cast u e) = reads t i e
reads t i (Minus e) = reads t i e
reads t i (Bang e) = reads t i e
reads t i (Calc op a b) = reads t i a || reads t i b
reads t i (Divide op a b) = reads t i a || reads t i b
reads t i (Bits op a b) = reads t i a || reads t i b
reads t i (Compare op a b) = reads t i a || reads t i b
reads t i (Both a b) = reads t i a || reads t i b
reads t i (Either a b) = reads t i a || reads t i b
reads t i (Choose u e a b) = reads t i e || (reads t i a || reads t i b)

-- one of these expressions names it
abbrev pub any_reads : CType → ℕ → List CExpr → Bool
any_reads t i es = list_any (reads t i) es

-- Whether statements may read a local before they set it, where a bare function is handed nothing
unfoldable pub needs : List Bool → CType → ℕ → Block → Bool
needs flags t i End = false
needs flags t i (Set u j e rest) = reads t i e || (not (is_it t i u j) && needs flags t i rest)
needs flags t i (Store f e rest) = reads t i e || needs flags t i rest
needs flags t i (StoreAt a k e rest) = reads t i k || (reads t i e || needs flags t i rest)
needs flags t i (Call u j f args rest) =
    (not (is_bare flags f) && any_reads t i args) || (not (is_it t i u j) && needs flags t i rest)
-- where no case fits, nothing is set
needs flags t i (Select u j e cases args rest) = reads t i e || (any_reads t i args || needs flags t i rest)
needs flags t i (If e a b rest) = reads t i e || (needs flags t i a || (needs flags t i b || needs flags t i rest))
needs flags t i (While e a rest) = reads t i e || (needs flags t i a || needs flags t i rest)
needs flags t i (Return e) = reads t i e

-- statements need none of the parameters of these types, from a number on
abbrev pub needs_none : List Bool → ℕ → List CType → Block → Bool
needs_none flags i [] a = true
needs_none flags i (t ∷ ts) a = not (needs flags t i a) && needs_none flags (suc i) ts a
