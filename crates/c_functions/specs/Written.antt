-- The statements that are written for instructions.
use Rattle.std.specs.Prelude.{◌≡◌, ◌<◌, ℕ, List, [], ◌∷◌, drop, Option, Some, None, Bool, true, false}
use Rattle.active_config.specs.Tree.{Tree, state_count, parent_of, comp_of, children_of, is_or}
use Rattle.code_language.specs.Code.{Procedures, instructions}
use Rattle.code_language.specs.Instrs.{Cond, Instr}
use Rattle.code_language.specs.Instrs as i
use Rattle.c_functions.specs.States.{or_parent}
use Rattle.c_functions.specs.Statements.{Check, Test, Block}
use Rattle.c_functions.specs.Statements as c

-- a test holds, and no flag of these is set, one after the other
abbrev pub and_no_flag : Check → List ℕ → Check
and_no_flag a [] = a
and_no_flag a (x ∷ xs) = and_no_flag (c.Both a (c.Not (c.Flag x))) xs

-- a state is active, by its parent where that is an OR
abbrev pub on_under : (ℕ → ℕ) → ℕ → Option ℕ → Check
on_under n s None = c.Flag s
on_under n s (Some p) = c.Chosen p (n s)

-- a state is active
abbrev pub on_check : Tree → (ℕ → ℕ) → ℕ → Check
on_check t n s = on_under n s (or_parent t (parent_of t s))

-- a test holds, and no child of a state is active
abbrev pub and_childless : Tree → ℕ → Check → Bool → Check
and_childless t s a true = c.Both a (c.Chosen s 0)
and_childless t s a false = and_no_flag a (children_of t s)

-- a state is bare
abbrev pub bare_check : Tree → (ℕ → ℕ) → ℕ → Check
bare_check t n s = and_childless t s (on_check t n s) (is_or (comp_of t s))

-- a state is remembered
abbrev pub last_under : (ℕ → ℕ) → ℕ → Option ℕ → Check
last_under n s None = c.No
last_under n s (Some p) = c.Kept p (n s)

-- a condition
abbrev pub test_of : Tree → (ℕ → ℕ) → Cond → Test
test_of t n (i.On s) = c.Simple (on_check t n s)
test_of t n (i.Bare s) = c.Simple (bare_check t n s)
test_of t n i.OnHome = c.HomeOn
test_of t n i.BareHome = c.HomeBare
test_of t n (i.Current e) = c.Simple (c.IsEvent e)
test_of t n (i.Result r) = c.Simple (c.IsResult r)
test_of t n (i.Test x) = c.Arithmetic x
test_of t n (i.Last s) = c.Simple (last_under n s (parent_of t s))

-- what `mark` tests
abbrev pub takes_if : Tree → (ℕ → ℕ) → ℕ → Bool → Check
takes_if t n p true = bare_check t n p
takes_if t n p false = on_check t n p

-- and the same where the state may have no parent, which is always taken
abbrev pub takes_check : Tree → (ℕ → ℕ) → Option ℕ → Check
takes_check t n None = c.Yes
takes_check t n (Some p) = takes_if t n p (is_or (comp_of t p))

-- a state becomes active
abbrev pub set_block : (ℕ → ℕ) → ℕ → Option ℕ → Block
set_block n s None = c.Mark s true c.End
set_block n s (Some p) = c.Choose p (n s) c.End

-- a state becomes inactive
abbrev pub unset_block : ℕ → Option ℕ → Block
unset_block s None = c.Mark s false c.End
unset_block s (Some p) = c.Choose p 0 c.End

-- a parent remembers
abbrev pub keep_block : (ℕ → ℕ) → ℕ → Option ℕ → Block → Block
keep_block n s None rest = rest
keep_block n s (Some p) rest = c.Keep p (n s) rest

-- a call with its note, if there is one
abbrev pub noted_call : ℕ → Option ℕ → Block → Block
noted_call p None rest = c.Call p rest
noted_call p (Some b) rest = c.Push b (c.Call p (c.Pop rest))

-- an instruction that neither jumps nor returns, before the statements of what follows it
unfoldable pub straight : Tree → (ℕ → ℕ) → ℕ → Instr → Block → Block
straight t n react (i.Assign v x) rest = c.Store v x rest
straight t n react (i.Emit e) rest = c.Pay (c.Put e rest)
straight t n react (i.Mark s) rest = c.If (c.Simple (takes_check t n (parent_of t s)))
    (set_block n s (or_parent t (parent_of t s))) c.End rest
straight t n react (i.Clear s) rest = c.If (c.Simple (bare_check t n s))
    (unset_block s (or_parent t (parent_of t s))) c.End rest
straight t n react (i.Keep s) rest = keep_block n s (parent_of t s) rest
straight t n react (i.Unless k x) rest = rest
straight t n react (i.Skip k) rest = rest
straight t n react (i.Call p tag) rest = noted_call p tag rest
straight t n react (i.Visit p tag) rest = c.Pay (noted_call p tag rest)
straight t n react (i.Send e) rest = c.Deep (c.Pay (c.Send e react rest))
straight t n react (i.SendTo e s p) rest = c.Deep
    (c.Pay (c.If (c.Simple (on_check t n s)) (c.Send e p c.End) c.End rest))
straight t n react i.Play rest = c.Play rest
straight t n react (i.Home s) rest = c.SetHome s rest
straight t n react i.Begin rest = c.SetBase rest
straight t n react i.Pass rest = c.If (c.Simple (c.Not (c.IsResult 0))) c.ReturnResult c.End rest
straight t n react (i.Ret r) rest = rest

-- the state is a child of an OR
pub record IsOrChild (t : Tree) (s : ℕ) : Type 0 where
  pub parent : ℕ
  pub up : parent_of t s ≡ Some parent
  pub or : is_or (comp_of t parent) ≡ true

-- such an instruction, with what well-formed code knows of its states
unfoldable pub IsStraight : Tree → Instr → Type 0
IsStraight t (i.Assign v x) = Unit {0}
IsStraight t (i.Emit e) = Unit {0}
IsStraight t (i.Mark s) = s < state_count t
IsStraight t (i.Clear s) = s < state_count t
IsStraight t (i.Keep s) = IsOrChild t s
IsStraight t (i.Unless k x) = ⊥
IsStraight t (i.Skip k) = ⊥
IsStraight t (i.Call p tag) = Unit {0}
IsStraight t (i.Visit p tag) = Unit {0}
IsStraight t (i.Send e) = Unit {0}
IsStraight t (i.SendTo e s p) = Unit {0}
IsStraight t i.Play = Unit {0}
IsStraight t (i.Home s) = Unit {0}
IsStraight t i.Begin = Unit {0}
IsStraight t i.Pass = Unit {0}
IsStraight t (i.Ret r) = ⊥

-- These statements do what the first instructions do, up to where the second ones follow: each `unless` is an `if` with
-- `else`, whose two parts come to the same place.
pub data Written (t : Tree) (n : ℕ → ℕ) (react : ℕ) : List Instr → List Instr → Block → Type 0 where
  Stops : (xs : List Instr) → Written t n react xs xs c.End
  Steps : (x : Instr) (rest ys : List Instr) (a : Block) → IsStraight t x → Written t n react rest ys a
      → Written t n react (x ∷ rest) ys (straight t n react x a)
  Returns : (r : ℕ) (rest ys : List Instr) → Written t n react (i.Ret r ∷ rest) ys (c.Return r)
  Skips : (k : ℕ) (rest ys : List Instr) (a : Block) → Written t n react (drop k rest) ys a
      → Written t n react (i.Skip k ∷ rest) ys a
  Forks : (k j : ℕ) (x : Cond) (rest mid ys : List Instr) (a b d : Block) → mid ≡ drop j (drop k rest)
      → Written t n react rest mid a
      → Written t n react (drop k rest) mid b → Written t n react mid ys d
      → Written t n react (i.Unless k x ∷ rest) ys (c.If (test_of t n x) a b d)

-- the bodies are written for the procedures; a number that is no procedure has an empty body
pub record AreWritten (t : Tree) (n : ℕ → ℕ) (k : Procedures) (bodies : ℕ → Block) : Type 0 where
  pub each : (p : ℕ) → Written t n k.react (instructions k p) [] (bodies p)
