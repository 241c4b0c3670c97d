-- Locals that may be read from some place of a function on, before they are set.
use Rattle.std.specs.Prelude.{ℕ, Bool, not, ◌||◌, List, [], ◌∷◌, ◌++◌, filter, if◌then◌else◌}
use Rattle.std.specs.List.{list_any}
use Rattle.c_subset.specs.declared.trees.CType.{CType}
use Rattle.c_subset.specs.Trees.{CExpr, Const, Field, Element, Local, Cast, Minus, Bang, Calc, Divide}
use Rattle.c_subset.specs.Trees.{Bits, Compare, Both, Either, Choose}
use Rattle.c_subset.specs.Trees.{Block, End, Set, Store, StoreAt, Call, Select, If, While, Return}
use Rattle.c_bare.specs.Needs.{is_it}
-- a local, by its type and its number
pub use Rattle.c_unread.specs.declared.local_name.LocalName.{LocalName}

-- it is one of these
abbrev pub is_live : CType → ℕ → List LocalName → Bool
is_live t i live = list_any (λ (x : LocalName). is_it t i x.of x.number) live

-- with one more, unless it is one of them
abbrev pub with_local : CType → ℕ → List LocalName → List LocalName
with_local t i live = if is_live t i live then live else live ++ record { of = t; number = i } ∷ []

-- without one
abbrev pub without : CType → ℕ → List LocalName → List LocalName
without t i live = filter (λ (x : LocalName). not (is_it x.of x.number t i)) live

-- the number of locals that take what nothing reads: the C of a chart reads none of so large a number
abbrev pub unread_number : ℕ
unread_number = 1000

-- the number of the local of a type that takes what a call returns, before statements that may read these: its own
-- where they may read that one, else the number of those that take what nothing reads
abbrev pub taken_by : CType → ℕ → List LocalName → ℕ
taken_by t i live = if is_live t i live || is_live t unread_number live then i else unread_number

-- those of both
abbrev pub united : List LocalName → List LocalName → List LocalName
united [] live = live
united (x ∷ xs) live = united xs (with_local x.of x.number live)

-- With those that an expression reads
unfoldable pub with_read : CExpr → List LocalName → List LocalName
with_read (Const t z) live = live
with_read (Field f) live = live
with_read (Element a e) live = with_read e live
with_read (Local t i) live = with_local t i live
with_read (Cast t e) live = with_read e live
with_read (Minus e) live = with_read e live
with_read (Bang e) live = with_read e live
with_read (Calc op a b) live = with_read b (with_read a live)
with_read (Divide op a b) live = with_read b (with_read a live)
with_read (Bits op a b) live = with_read b (with_read a live)
with_read (Compare op a b) live = with_read b (with_read a live)
with_read (Both a b) live = with_read b (with_read a live)
with_read (Either a b) live = with_read b (with_read a live)
with_read (Choose t e a b) live = with_read b (with_read a (with_read e live))

-- with those that these expressions read
abbrev pub with_all_read : List CExpr → List LocalName → List LocalName
with_all_read [] live = live
with_all_read (e ∷ es) live = with_all_read es (with_read e live)

-- With those that statements read anywhere
unfoldable pub with_named : Block → List LocalName → List LocalName
with_named End live = live
with_named (Set t i e rest) live = with_named rest (with_read e live)
with_named (Store f e rest) live = with_named rest (with_read e live)
with_named (StoreAt a i e rest) live = with_named rest (with_read e (with_read i live))
with_named (Call t i f args rest) live = with_named rest (with_all_read args live)
with_named (Select t i e cases args rest) live = with_named rest (with_all_read args (with_read e live))
with_named (If e a b rest) live = with_named rest (with_named b (with_named a (with_read e live)))
with_named (While e a rest) live = with_named rest (with_named a (with_read e live))
with_named (Return e) live = with_read e live
