-- What is known of the result of a call, and whether statements after it give it back.
use Rattle.std.specs.Prelude.{ℕ, ◌^◌, ◌==◌, nat_lt, ℤ, pos, negsuc, Bool, true, false, ◌&&◌, ◌||◌, List}
use Rattle.std.specs.Prelude.{Option, Some, None, if◌then◌else◌}
use Rattle.std.specs.List.{list_all}
use Rattle.c_subset.specs.declared.trees.Comparison.{Comparison}
use Rattle.c_subset.specs.declared.trees.Comparison.TheVariants.{IsEqual, IsUnequal, IsBelow, IsAtMost, IsAbove}
use Rattle.c_subset.specs.declared.trees.Comparison.TheVariants.{IsAtLeast}
use Rattle.c_subset.specs.Trees.{CExpr, Const, Field, Element, Local, Cast, Minus, Bang, Calc, Divide, Bits, Compare}
use Rattle.c_subset.specs.Trees.{Both, Either, Choose}
use Rattle.c_subset.specs.Trees.{Block, End, Set, Store, StoreAt, Call, Select, If, While, Return}
use Rattle.c_subset.specs.Running.{same_type}
use Rattle.c_functions.specs.Plans.{word}
use Rattle.c_trees.specs.Blocks.{is_end}
-- ---- what is known of a result

-- what is known of a result, as the code declares it: it is this number, it isn't 0, or nothing is known
pub use Rattle.c_loops.specs.declared.known.Known.{Known}
pub use Rattle.c_loops.specs.declared.known.Known.TheVariants.{Exactly, NotZero, Anything}
-- what an expression tests: that the result is this number, that it isn't, or something else
pub use Rattle.c_loops.specs.declared.known.Test.{Test}
pub use Rattle.c_loops.specs.declared.known.Test.TheVariants.{Equal, Unequal, Other}

-- the test that holds where that doesn't
abbrev pub opposite : Test → Test
opposite (Equal j) = Unequal j
opposite (Unequal j) = Equal j
opposite Other = Other

-- what is known where a test holds; none where it can't
abbrev pub where_holds : Known → Test → Option Known
where_holds (Exactly k) (Equal j) = if k == j then Some (Exactly k) else None
where_holds (Exactly k) (Unequal j) = if k == j then None else Some (Exactly k)
where_holds (Exactly k) Other = Some (Exactly k)
where_holds NotZero (Equal j) = if j == 0 then None else Some (Exactly j)
where_holds NotZero (Unequal j) = Some NotZero
where_holds NotZero Other = Some NotZero
where_holds Anything (Equal j) = Some (Exactly j)
where_holds Anything (Unequal j) = Some (if j == 0 then NotZero else Anything)
where_holds Anything Other = Some Anything

-- ---- expressions

-- a number as a word, where it is one
abbrev pub small : ℤ → Option ℕ
small (pos n) = if nat_lt n (2 ^ 32) then Some n else None
small (negsuc n) = None

-- a constant word
abbrev pub constant_of : CExpr → Option ℕ
constant_of (Const t z) = if same_type t word then small z else None
constant_of (Field f) = None
constant_of (Element a e) = None
constant_of (Local t k) = None
constant_of (Cast t e) = None
constant_of (Minus e) = None
constant_of (Bang e) = None
constant_of (Calc op a b) = None
constant_of (Divide op a b) = None
constant_of (Bits op a b) = None
constant_of (Compare op a b) = None
constant_of (Both a b) = None
constant_of (Either a b) = None
constant_of (Choose t e a b) = None

-- the word that is the local with a number
abbrev pub is_local : ℕ → CExpr → Bool
is_local i (Const t z) = false
is_local i (Field f) = false
is_local i (Element a e) = false
is_local i (Local t k) = same_type t word && (k == i)
is_local i (Cast t e) = false
is_local i (Minus e) = false
is_local i (Bang e) = false
is_local i (Calc op a b) = false
is_local i (Divide op a b) = false
is_local i (Bits op a b) = false
is_local i (Compare op a b) = false
is_local i (Both a b) = false
is_local i (Either a b) = false
is_local i (Choose t e a b) = false

-- the last result is compared with a constant
abbrev pub comparing : Option ℕ → Comparison → Test
comparing None op = Other
comparing (Some j) IsEqual = Equal j
comparing (Some j) IsUnequal = Unequal j
comparing (Some j) IsBelow = Other
comparing (Some j) IsAtMost = Other
comparing (Some j) IsAbove = Other
comparing (Some j) IsAtLeast = Other

-- what an expression tests of the last result, which is local 4
abbrev pub test_of : CExpr → Test
test_of (Const t z) = Other
test_of (Field f) = Other
test_of (Element a e) = Other
test_of (Local t k) = Other
test_of (Cast t e) = Other
test_of (Minus e) = Other
test_of (Bang e) = opposite (test_of e)
test_of (Calc op a b) = Other
test_of (Divide op a b) = Other
test_of (Bits op a b) = Other
test_of (Compare op a b) = if is_local 4 a then comparing (constant_of b) op else Other
test_of (Both a b) = Other
test_of (Either a b) = Other
test_of (Choose t e a b) = Other

-- ---- what is given back

-- what holds of what is known, where that can be
abbrev pub if_known : Option Known → (Known → Bool) → Bool
if_known (Some v) f = f v
if_known None f = true

-- it tests the result
abbrev pub is_test : Test → Bool
is_test (Equal j) = true
is_test (Unequal j) = true
is_test Other = false

-- both parts after a test of the last result do that; a test of something else may go wrong
abbrev pub both_parts : Test → Known → (Known → Bool) → (Known → Bool) → Bool
both_parts t v f g = is_test t && (if_known (where_holds v t) f && if_known (where_holds v (opposite t)) g)

-- the result is this constant
abbrev pub is_constant : Option ℕ → Known → Bool
is_constant (Some k) (Exactly j) = k == j
is_constant (Some k) NotZero = false
is_constant (Some k) Anything = false
is_constant None v = false

-- an expression is the last result, of which that is known
abbrev pub is_result : CExpr → Known → Bool
is_result e v = is_local 4 e || is_constant (constant_of e) v

-- a part does, or what comes after it where the part is empty
abbrev pub part_gives : Bool → (Known → Bool) → (Known → Bool) → Known → Bool
part_gives empty inside after v = if empty then after v else inside v

-- Whether statements return the last result, of which that is known, and do nothing else
unfoldable pub gives_back : Block → Known → Bool
gives_back End v = false
gives_back (Set t i e rest) v = false
gives_back (Store f e rest) v = false
gives_back (StoreAt a i e rest) v = false
gives_back (Call t i f args rest) v = false
gives_back (Select t i e cases args rest) v = false
gives_back (If e a b rest) v =
    both_parts (test_of e) v (part_gives (is_end a) (gives_back a) (gives_back rest))
    (part_gives (is_end b) (gives_back b) (gives_back rest))
gives_back (While e a rest) v = false
gives_back (Return e) v = is_result e v

-- statements give back each of these results
abbrev pub gives_each_back : List Known → Block → Bool
gives_each_back results rest = list_all (gives_back rest) results
