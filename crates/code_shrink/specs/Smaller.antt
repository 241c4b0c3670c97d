-- How a procedure is made smaller: constant tests are decided, jumps lead past the skips that they would meet, and what
-- is not reached goes, with each skip that then passes over nothing.
use Rattle.std.specs.Prelude.{◌+◌, ◌==◌, ◌&&◌, ℕ, zero, suc, not, Bool, true, false, List, [], ◌∷◌, map}
use Rattle.std.specs.Prelude.{Option, Some, None, slice_index}
use Rattle.actions.specs.Exprs.{Expr}
use Rattle.code_language.specs.Instrs.{Cond, On, Bare, OnHome, BareHome, Current, Result, Test, Last}
use Rattle.code_language.specs.Instrs.{Instr, Assign, Emit, Mark, Clear, Keep, Unless, Skip, Call, Visit, Send}
use Rattle.code_language.specs.Instrs.{SendTo, Play, Home, Begin, Pass, Ret}
use Rattle.code_shrink.specs.Follows.{renamed}
use Rattle.code_shrink.specs.Neat.{constant_truth}

-- ---- constant tests are decided

-- a test that is always true passes over nothing, and one that is never true passes over what it would pass over
abbrev pub decided : ℕ → Expr → Option Bool → Instr
decided k e None = Unless k (Test e)
decided k e (Some true) = Skip 0
decided k e (Some false) = Skip k

-- a test, decided where it is constant
abbrev pub folded_test : ℕ → Cond → Instr
folded_test k (On s) = Unless k (On s)
folded_test k (Bare s) = Unless k (Bare s)
folded_test k OnHome = Unless k OnHome
folded_test k BareHome = Unless k BareHome
folded_test k (Current e) = Unless k (Current e)
folded_test k (Result r) = Unless k (Result r)
folded_test k (Test e) = decided k e (constant_truth e)
folded_test k (Last s) = Unless k (Last s)

-- an instruction with a constant test decided
abbrev pub folded : Instr → Instr
folded (Assign v x) = Assign v x
folded (Emit e) = Emit e
folded (Mark s) = Mark s
folded (Clear s) = Clear s
folded (Keep s) = Keep s
folded (Unless k c) = folded_test k c
folded (Skip k) = Skip k
folded (Call p tag) = Call p tag
folded (Visit p tag) = Visit p tag
folded (Send e) = Send e
folded (SendTo e s p) = SendTo e s p
folded Play = Play
folded (Home s) = Home s
folded Begin = Begin
folded Pass = Pass
folded (Ret r) = Ret r

-- ---- jumps lead past skips

-- how far a skip leads past the skips that it meets, by how far those after it lead; 0 for any other instruction
abbrev pub slide_from : Instr → List ℕ → ℕ
slide_from (Assign v x) ls = 0
slide_from (Emit e) ls = 0
slide_from (Mark s) ls = 0
slide_from (Clear s) ls = 0
slide_from (Keep s) ls = 0
slide_from (Unless k c) ls = 0
slide_from (Skip k) ls = suc (k + slice_index ls k)
slide_from (Call p tag) ls = 0
slide_from (Visit p tag) ls = 0
slide_from (Send e) ls = 0
slide_from (SendTo e s p) ls = 0
slide_from Play ls = 0
slide_from (Home s) ls = 0
slide_from Begin ls = 0
slide_from Pass ls = 0
slide_from (Ret r) ls = 0

-- how far the skips lead from each place
abbrev pub slides : List Instr → List ℕ
slides [] = []
slides (x ∷ rest) = slide_from x (slides rest) ∷ slides rest

-- an instruction whose jump leads past skips
abbrev pub threaded : Instr → List ℕ → Instr
threaded (Assign v x) ls = Assign v x
threaded (Emit e) ls = Emit e
threaded (Mark s) ls = Mark s
threaded (Clear s) ls = Clear s
threaded (Keep s) ls = Keep s
threaded (Unless k c) ls = Unless (k + slice_index ls k) c
threaded (Skip k) ls = Skip (k + slice_index ls k)
threaded (Call p tag) ls = Call p tag
threaded (Visit p tag) ls = Visit p tag
threaded (Send e) ls = Send e
threaded (SendTo e s p) ls = SendTo e s p
threaded Play ls = Play
threaded (Home s) ls = Home s
threaded Begin ls = Begin
threaded Pass ls = Pass
threaded (Ret r) ls = Ret r

-- instructions whose jumps lead past skips
abbrev pub threads : List Instr → List Instr
threads [] = []
threads (x ∷ rest) = threaded x (slides rest) ∷ threads rest

-- a procedure with constant tests decided and jumps past skips; each instruction keeps its place
abbrev pub straight : List Instr → List Instr
straight is = threads (map folded is)

-- ---- what is not reached goes

-- one more where the test holds
abbrev pub one_if : Bool → ℕ → ℕ
one_if true n = suc n
one_if false n = n

-- how many of the first k are kept
abbrev pub count : ℕ → List Bool → ℕ
count zero bs = 0
count (suc k) [] = 0
count (suc k) (b ∷ bs) = one_if b (count k bs)

-- a skip that passes over nothing that is kept; bs says what is kept after it
abbrev pub is_idle : Instr → List Bool → Bool
is_idle (Assign v x) bs = false
is_idle (Emit e) bs = false
is_idle (Mark s) bs = false
is_idle (Clear s) bs = false
is_idle (Keep s) bs = false
is_idle (Unless k c) bs = false
is_idle (Skip k) bs = count k bs == 0
is_idle (Call p tag) bs = false
is_idle (Visit p tag) bs = false
is_idle (Send e) bs = false
is_idle (SendTo e s p) bs = false
is_idle Play bs = false
is_idle (Home s) bs = false
is_idle Begin bs = false
is_idle Pass bs = false
is_idle (Ret r) bs = false

-- what is kept: what is reached, by the flags, and is no skip over nothing
abbrev pub keeps : List Bool → List Instr → List Bool
keeps [] is = []
keeps (b ∷ bs) [] = []
keeps (b ∷ bs) (x ∷ rest) = (b && not (is_idle x (keeps bs rest))) ∷ keeps bs rest

-- an instruction with the jump that is left where bs says what is kept after it, and with new numbers of procedures
abbrev pub recounted : (ℕ → ℕ) → Instr → List Bool → Instr
recounted m (Assign v x) bs = Assign v x
recounted m (Emit e) bs = Emit e
recounted m (Mark s) bs = Mark s
recounted m (Clear s) bs = Clear s
recounted m (Keep s) bs = Keep s
recounted m (Unless k c) bs = Unless (count k bs) c
recounted m (Skip k) bs = Skip (count k bs)
recounted m (Call p tag) bs = renamed m (Call p tag)
recounted m (Visit p tag) bs = renamed m (Visit p tag)
recounted m (Send e) bs = Send e
recounted m (SendTo e s p) bs = renamed m (SendTo e s p)
recounted m Play bs = Play
recounted m (Home s) bs = Home s
recounted m Begin bs = Begin
recounted m Pass bs = Pass
recounted m (Ret r) bs = Ret r

-- an instruction before others where it is kept
abbrev pub put_if : Bool → Instr → List Instr → List Instr
put_if true x rest = x ∷ rest
put_if false x rest = rest

-- the instructions that are kept, by the flags
abbrev pub squeezed : (ℕ → ℕ) → List Bool → List Instr → List Instr
squeezed m [] is = []
squeezed m (b ∷ bs) [] = []
squeezed m (b ∷ bs) (x ∷ rest) = put_if b (recounted m x bs) (squeezed m bs rest)

-- the smaller procedure, where the flags say which places of the straight one are reached
abbrev pub smaller : (ℕ → ℕ) → List Bool → List Instr → List Instr
smaller m bs is = squeezed m (keeps bs (straight is)) (straight is)
