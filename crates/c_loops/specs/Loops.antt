-- A function that ends by a call of itself, as a loop.
use Rattle.std.specs.Prelude.{ℕ, zero, suc, ◌==◌, pos, Bool, true, false, ◌&&◌, ◌||◌, List, [], ◌∷◌, ◌++◌, Option}
use Rattle.std.specs.Prelude.{Some, None, if◌then◌else◌, length, nat_le}
use Rattle.std.specs.List.{list_all}
use Rattle.c_subset.specs.declared.trees.CType.{CType}
use Rattle.c_subset.specs.declared.trees.CType.TheVariants.{Truth}
use Rattle.c_subset.specs.Trees.{CExpr, Const, Function, File}
use Rattle.c_subset.specs.Trees.{Block, End, Set, Store, StoreAt, Call, Select, If, While, Return}
use Rattle.c_subset.specs.Lines.{lines_of}
use Rattle.c_subset.specs.Running.{same_type}
use Rattle.c_functions.specs.Plans.{word}
use Rattle.c_loops.specs.Results.{Known, Exactly, Anything, Test, opposite, where_holds, constant_of}
use Rattle.c_trees.specs.Blocks.{is_end}
use Rattle.c_loops.specs.Results.{is_local, test_of, gives_each_back}
use Rattle.c_loops.specs.declared.functions.TheConstants.{MOST_LINES}

-- ---- calls that hand on

-- these are the locals from a number on, up to the last parameter
abbrev pub are_locals : ℕ → List CExpr → Bool
are_locals i [] = i == 5
are_locals i (e ∷ es) = is_local i e && are_locals (suc i) es

-- r = pN(m, event, depth, base, home, r): a call of function p by itself, with its parameters as they are
abbrev pub hands_on : ℕ → CType → ℕ → ℕ → List CExpr → Bool
hands_on p t i f args = same_type t word && ((i == 4) && ((f == p) && are_locals 0 args))

-- they don't fall through but where a call hands on
unfoldable pub ends : ℕ → Block → Bool
ends p End = false
ends p (Set t i e rest) = ends p rest
ends p (Store f e rest) = ends p rest
ends p (StoreAt a i e rest) = ends p rest
ends p (Call t i f args rest) = hands_on p t i f args || ends p rest
ends p (Select t i e cases args rest) = ends p rest
ends p (If e a b rest) = ends p rest
ends p (While e a rest) = ends p rest
ends p (Return e) = true

-- there is one of these
abbrev pub is_some_of : List Block → Bool
is_some_of [] = false
is_some_of (a ∷ rests) = true

-- the first part of an `if` without a second one leads back: calls in it hand on, after which these stand, and it
-- doesn't fall through otherwise
abbrev pub leads_back : ℕ → List Block → Block → Block → Bool
leads_back p rests a b = is_end b && (is_some_of rests && ends p a)

-- What stands after each call that hands on; those in other parts and in `while` stay calls
unfoldable pub rests : ℕ → Block → List Block
rests p End = []
rests p (Set t i e rest) = rests p rest
rests p (Store f e rest) = rests p rest
rests p (StoreAt a i e rest) = rests p rest
rests p (Call t i f args rest) = if hands_on p t i f args then rest ∷ [] else rests p rest
rests p (Select t i e cases args rest) = rests p rest
rests p (If e a b rest) = (if leads_back p (rests p a) a b then rests p a else []) ++ rests p rest
rests p (While e a rest) = rests p rest
rests p (Return e) = []

-- ---- results

-- what is known, if anything is
abbrev pub known_or : Option Known → Known
known_or (Some v) = v
known_or None = Anything

-- what is known of the last result after a test
abbrev pub after_test : Test → Known
after_test t = known_or (where_holds Anything t)

-- a constant that is returned
abbrev pub constant_result : Option ℕ → Known
constant_result (Some k) = Exactly k
constant_result None = Anything

-- what is known of what is returned, where that is known of the last result
abbrev pub result_of : CExpr → Known → Known
result_of e v = if is_local 4 e then v else constant_result (constant_of e)

-- What is known of each result that is returned, where that is known of the last result; not what is returned after a
-- call that hands on, where calls do
unfoldable pub results : Bool → ℕ → Known → Block → List Known
results hand p v End = []
results hand p v (Set t i e rest) = results hand p Anything rest
results hand p v (Store f e rest) = results hand p Anything rest
results hand p v (StoreAt a i e rest) = results hand p Anything rest
results hand p v (Call t i f args rest) =
    if hand && hands_on p t i f args then [] else results hand p Anything rest
results hand p v (Select t i e cases args rest) = results hand p Anything rest
results hand p v (If e a b rest) =
    results (hand && leads_back p (rests p a) a b) p (after_test (test_of e)) a
    ++ results false p (after_test (opposite (test_of e))) b ++ results hand p Anything rest
results hand p v (While e a rest) = results false p Anything a ++ results hand p Anything rest
results hand p v (Return e) = result_of e v ∷ []

-- ---- the loop

-- One turn: statements without the calls that hand on, after which the turn ends
unfoldable pub again : ℕ → Block → Block
again p End = End
again p (Set t i e rest) = Set t i e (again p rest)
again p (Store f e rest) = Store f e (again p rest)
again p (StoreAt a i e rest) = StoreAt a i e (again p rest)
again p (Call t i f args rest) = if hands_on p t i f args then End else Call t i f args (again p rest)
again p (Select t i e cases args rest) = Select t i e cases args (again p rest)
again p (If e a b rest) =
    if leads_back p (rests p a) a b then If e (again p a) (again p rest) End else If e a b (again p rest)
again p (While e a rest) = While e a (again p rest)
again p (Return e) = Return e

-- the statements call their function so that after each such call each of its results is given back
abbrev pub loops : ℕ → Block → Bool
loops p body = is_some_of (rests p body) && list_all (gives_each_back (results true p Anything body)) (rests p body)

-- these are words, from a number on, up to the last parameter
abbrev pub are_words : ℕ → List CType → Bool
are_words i [] = i == 5
are_words i (t ∷ ts) = same_type t word && are_words (suc i) ts

-- while (true) { .. }
abbrev pub forever : Block → Block
forever a = While (Const Truth (pos 1)) a End

-- statements, as a loop where they may be one
abbrev pub turned : ℕ → Block → Block
turned p body = if loops p body then forever (again p body) else body

-- the types of the function of a procedure: its result and its parameters are words
abbrev pub is_procedure : CType → List CType → Bool
is_procedure t ts = same_type t word && are_words 0 ts

-- so many lines aren't too many: the pass goes through a function often, and once more for each part in another
abbrev pub are_few : ℕ → Bool
are_few n = nat_le n MOST_LINES

-- a function with this result, these parameters and so many lines may be a loop
abbrev pub may_loop : CType → List CType → ℕ → Bool
may_loop t ts n = is_procedure t ts && are_few n

-- the function with a number, as a loop where it may be one
abbrev pub looped : ℕ → Function → Function
looped p f =
    if may_loop f.result f.parameters (length (lines_of f.body)) then record f { body = turned p f.body } else f

-- the first so many functions, from a number on
abbrev pub loops_from : ℕ → ℕ → List Function → List Function
loops_from p zero fs = fs
loops_from p (suc n) [] = []
loops_from p (suc n) (f ∷ fs) = looped p f ∷ loops_from (suc p) n fs

-- the file, where its first so many functions are loops where they may be
abbrev pub with_loops : ℕ → File → File
with_loops n file = record file { functions = loops_from 0 n file.functions }
