-- Neat code: each procedure and each instruction is reached, no test is constant, and no jump leads to the next place
-- or to another jump that is always taken.
use Rattle.std.specs.Prelude.{◌≡◌, ◌≢◌, ◌<◌, ◌⊎◌, ◌&&◌, ◌+◌, ℕ, Bool, true, false, List, [], length}
use Rattle.std.specs.Prelude.{Option, Some, None, Ok, Err, slice_get, if◌then◌else◌}
use Rattle.active_config.specs.Marks.{Configuration}
use Rattle.actions.specs.Exprs.{Expr, Lit, Flag, Read, Active, Neg, Not, Bin}
use Rattle.actions.specs.Values.{Valued, value_of, flag_of}
use Rattle.code_language.specs.Code.{Procedures, instructions, fetch}
use Rattle.code_language.specs.Instrs.{Cond, Test, Instr, Assign, Emit, Mark, Clear}
use Rattle.code_language.specs.Instrs.{Keep, Unless, Skip, Call, Visit, Send}
use Rattle.code_language.specs.Instrs.{SendTo, Play, Home, Begin, Pass, Ret}

-- ---- constant tests

-- the expression reads no datum and no state
unfoldable pub is_closed : Expr → Bool
is_closed (Lit x) = true
is_closed (Flag b) = true
is_closed (Read v) = false
is_closed (Active s) = false
is_closed (Neg a) = is_closed a
is_closed (Not a) = is_closed a
is_closed (Bin op a b) = is_closed a && is_closed b

-- no state is there
abbrev pub nowhere : Configuration
nowhere = record { flags = []; last = [] }

-- the truth of a value, none where a divisor is zero
abbrev pub truth_in : Valued → Option Bool
truth_in (Ok x) = Some (flag_of x)
truth_in (Err fault) = None

-- the truth of an expression that reads no datum and no state, and has a value; none of any other one
unfoldable pub constant_truth : Expr → Option Bool
constant_truth e = if is_closed e then truth_in (value_of [] nowhere e) else None

-- ---- reached places

-- the place after an instruction at a place, or one of the two after a test
abbrev pub IsAfter : ℕ → Instr → ℕ → Type 0
IsAfter i (Assign v x) j = j ≡ i + 1
IsAfter i (Emit e) j = j ≡ i + 1
IsAfter i (Mark s) j = j ≡ i + 1
IsAfter i (Clear s) j = j ≡ i + 1
IsAfter i (Keep s) j = j ≡ i + 1
IsAfter i (Unless k c) j = (j ≡ i + 1) ⊎ (j ≡ i + 1 + k)
IsAfter i (Skip k) j = j ≡ i + 1 + k
IsAfter i (Call p tag) j = j ≡ i + 1
IsAfter i (Visit p tag) j = j ≡ i + 1
IsAfter i (Send e) j = j ≡ i + 1
IsAfter i (SendTo e s p) j = j ≡ i + 1
IsAfter i Play j = j ≡ i + 1
IsAfter i (Home s) j = j ≡ i + 1
IsAfter i Begin j = j ≡ i + 1
IsAfter i Pass j = j ≡ i + 1
IsAfter i (Ret r) j = ⊥

-- the place is reached from place 0
pub data Comes (is : List Instr) : ℕ → Type 0 where
  First : Comes is 0
  After : (i j : ℕ) (x : Instr) → Comes is i → slice_get is i ≡ Some x → IsAfter i x j → Comes is j

-- ---- reached procedures

-- the instruction names the procedure
abbrev pub Names : Instr → ℕ → Type 0
Names (Assign v x) q = ⊥
Names (Emit e) q = ⊥
Names (Mark s) q = ⊥
Names (Clear s) q = ⊥
Names (Keep s) q = ⊥
Names (Unless k c) q = ⊥
Names (Skip k) q = ⊥
Names (Call p tag) q = (q ≡ p) ⊎ (tag ≡ Some q)
Names (Visit p tag) q = (q ≡ p) ⊎ (tag ≡ Some q)
Names (Send e) q = ⊥
Names (SendTo e s p) q = q ≡ p
Names Play q = ⊥
Names (Home s) q = ⊥
Names Begin q = ⊥
Names Pass q = ⊥
Names (Ret r) q = ⊥

-- the procedure is that of the start or of a reaction, or one that a reached procedure names
pub data IsReached (k : Procedures) : ℕ → Type 0 where
  AtStart : IsReached k k.start
  AtReaction : IsReached k k.react
  Named : (p i q : ℕ) (x : Instr) → IsReached k p → fetch k p i ≡ Some x → Names x q → IsReached k q

-- ---- neat code

-- no skip stands at the place
abbrev pub IsNoSkip : List Instr → ℕ → Type 0
IsNoSkip is i = (k : ℕ) → slice_get is i ≢ Some (Skip k)

-- a procedure is neat by itself
pub record IsNeatProcedure (is : List Instr) : Type 0 where
  pub reached : (i : ℕ) → i < length is → Comes is i
  pub undecided : (i k : ℕ) (e : Expr) → slice_get is i ≡ Some (Unless k (Test e)) → constant_truth e ≡ None
  pub far : (i : ℕ) → slice_get is i ≢ Some (Skip 0)
  pub tests : (i k : ℕ) (c : Cond) → slice_get is i ≡ Some (Unless k c) → IsNoSkip is (i + 1 + k)
  pub skips : (i k : ℕ) → slice_get is i ≡ Some (Skip k) → IsNoSkip is (i + 1 + k)

-- Code is neat: each procedure is reached, and each is neat by itself.
pub record IsNeat (k : Procedures) : Type 0 where
  pub reached : (p : ℕ) → p < length k.procs → IsReached k p
  pub each : (p : ℕ) → p < length k.procs → IsNeatProcedure (instructions k p)
