-- How statements are written: each `unless` becomes an `if` with an `else`, whose two parts come together after the
-- instructions that it passes over, or where the `skip` at their end leads. Where a jump of the two parts leads past that
-- place, each of them is written as far as all that is to be written.
use Rattle.std.specs.Prelude.{◌-◌, ◌+◌, ◌&&◌, ℕ, zero, suc, nat_le, List, [], ◌∷◌, length, drop, Option, Some, None}
use Rattle.std.specs.Prelude.{Bool, true, false, slice_get}
use Rattle.active_config.specs.Tree.{Tree}
use Rattle.code_language.specs.Code.{Code, instructions}
use Rattle.code_language.specs.Instrs.{Cond, Instr}
use Rattle.code_language.specs.Instrs as i
use Rattle.c_functions.specs.Statements.{Block}
use Rattle.c_functions.specs.Statements as c
use Rattle.c_functions.specs.Written.{test_of, straight}

-- how many of the next instructions an instruction can pass over
abbrev pub jump_of : Instr → ℕ
jump_of (i.Assign v x) = 0
jump_of (i.Emit e) = 0
jump_of (i.Mark s) = 0
jump_of (i.Clear s) = 0
jump_of (i.Keep s) = 0
jump_of (i.Unless k x) = k
jump_of (i.Skip j) = j
jump_of (i.Call p tag) = 0
jump_of (i.Visit p tag) = 0
jump_of (i.Send e) = 0
jump_of (i.SendTo e s p) = 0
jump_of i.Play = 0
jump_of (i.Home s) = 0
jump_of i.Begin = 0
jump_of i.Pass = 0
jump_of (i.Ret r) = 0

-- whether none of the first m instructions jumps past them
abbrev pub stays_within : ℕ → List Instr → Bool
stays_within zero xs = true
stays_within (suc m) [] = true
stays_within (suc m) (x ∷ rest) = nat_le (jump_of x) m && stays_within m rest

-- how far an instruction skips, 0 where it is no `skip`
abbrev pub skip_of : Option Instr → ℕ
skip_of None = 0
skip_of (Some (i.Assign v x)) = 0
skip_of (Some (i.Emit e)) = 0
skip_of (Some (i.Mark s)) = 0
skip_of (Some (i.Clear s)) = 0
skip_of (Some (i.Keep s)) = 0
skip_of (Some (i.Unless k x)) = 0
skip_of (Some (i.Skip j)) = j
skip_of (Some (i.Call p tag)) = 0
skip_of (Some (i.Visit p tag)) = 0
skip_of (Some (i.Send e)) = 0
skip_of (Some (i.SendTo e s p)) = 0
skip_of (Some i.Play) = 0
skip_of (Some (i.Home s)) = 0
skip_of (Some i.Begin) = 0
skip_of (Some i.Pass) = 0
skip_of (Some (i.Ret r)) = 0

-- how many instructions there are up to where the two parts of an `unless` over k of them come together
abbrev pub join_of : ℕ → List Instr → ℕ
join_of zero rest = 0
join_of (suc k) rest = suc k + skip_of (slice_get rest k)

module _ (t : Tree) (n : ℕ → ℕ) (react : ℕ) (more : ℕ → List Instr → Block) where
  -- an `unless` over k of m instructions: its parts come together after j of them, or are written to the end
  abbrev pub fork_at : ℕ → ℕ → Cond → List Instr → ℕ → Bool → Block
  fork_at m k x rest j true =
      c.If (test_of t n x) (more j rest) (more (j - k) (drop k rest)) (more (m - j) (drop j rest))
  fork_at m k x rest j false = c.If (test_of t n x) (more m rest) (more (m - k) (drop k rest)) c.End

  -- an instruction before m others
  abbrev pub write_one : ℕ → Instr → List Instr → Block
  write_one m (i.Assign v x) rest = straight t n react (i.Assign v x) (more m rest)
  write_one m (i.Emit e) rest = straight t n react (i.Emit e) (more m rest)
  write_one m (i.Mark s) rest = straight t n react (i.Mark s) (more m rest)
  write_one m (i.Clear s) rest = straight t n react (i.Clear s) (more m rest)
  write_one m (i.Keep s) rest = straight t n react (i.Keep s) (more m rest)
  write_one m (i.Unless k x) rest = fork_at m k x rest (join_of k rest) (stays_within (join_of k rest) rest)
  write_one m (i.Skip j) rest = more (m - j) (drop j rest)
  write_one m (i.Call p tag) rest = straight t n react (i.Call p tag) (more m rest)
  write_one m (i.Visit p tag) rest = straight t n react (i.Visit p tag) (more m rest)
  write_one m (i.Send e) rest = straight t n react (i.Send e) (more m rest)
  write_one m (i.SendTo e s p) rest = straight t n react (i.SendTo e s p) (more m rest)
  write_one m i.Play rest = straight t n react i.Play (more m rest)
  write_one m (i.Home s) rest = straight t n react (i.Home s) (more m rest)
  write_one m i.Begin rest = straight t n react i.Begin (more m rest)
  write_one m i.Pass rest = straight t n react i.Pass (more m rest)
  write_one m (i.Ret r) rest = c.Return r

-- the first m instructions, where the fuel is at least m
abbrev pub write : Tree → (ℕ → ℕ) → ℕ → ℕ → ℕ → List Instr → Block
write t n react zero m xs = c.End
write t n react (suc fuel) zero xs = c.End
write t n react (suc fuel) (suc m) [] = c.End
write t n react (suc fuel) (suc m) (x ∷ rest) = write_one t n react (write t n react fuel) m x rest

-- the plan of a procedure
unfoldable pub plan_of : Tree → (ℕ → ℕ) → ℕ → List Instr → Block
plan_of t n react xs = write t n react (length xs) (length xs) xs

-- the plan of each procedure of code, with 1 + a state's number as the number of a child
unfoldable pub plans_of : Code → ℕ → Block
plans_of k p = plan_of k.tree (λ x. suc x) k.procedures.react (instructions k.procedures p)
