-- What the C program does: a big step with fuel, one unit for each call that is open and for each turn of `while`.
use Rattle.std.specs.Prelude.{◌==◌, ◌+◌, ◌&&◌, ◌++◌, ℕ, zero, suc, nat_le, nat_lt, List, [], ◌∷◌, length, Option, Some}
use Rattle.std.specs.Prelude.{None}
use Rattle.std.specs.Prelude.{Result, Ok, Err, Bool, true, false, not, if◌then◌else◌, slice_get, slice_index_or}
use Rattle.std.specs.Prelude.{slice_set}
use Rattle.flow_base.specs.declared.bounds.Bounds.{Bounds}
use Rattle.flow_base.specs.declared.fault.Fault.{Fault}
use Rattle.flow_base.specs.declared.fault.Fault.TheVariants as faults
use Rattle.active_config.specs.Tree.{Tree}
use Rattle.actions.specs.Exprs.{Expr}
use Rattle.actions.specs.Work.{Now, is_event, deeper}
use Rattle.c_functions.specs.States.{States, c_on, c_bare, choose_child, set_flag}
use Rattle.c_functions.specs.Statements.{CMemory, Locals, Check, Test, Block, Out}
use Rattle.c_functions.specs.Statements as c

-- the arithmetic of C, which stands elsewhere: the truth of an expression, and a store into a datum
pub record Sums : Type 0 where
  pub truth : Expr → CMemory → Result Bool Fault
  pub store : ℕ → Expr → CMemory → Result CMemory Fault

-- a program: the arithmetic, the tree and the numbers of states that its text was made of, the bounds, and the body of
-- each function
pub record CProgram : Type 0 where
  pub sums : Sums
  pub tree : Tree
  pub numbers : ℕ → ℕ
  pub bounds : Bounds
  pub bodies : ℕ → Block

-- memory with other fields of states
abbrev pub with_states : States → CMemory → CMemory
with_states st m = record m { states = st }

-- notes without the last
abbrev pub front : List ℕ → List ℕ
front [] = []
front (x ∷ []) = []
front (x ∷ y ∷ ys) = x ∷ front (y ∷ ys)

-- a test
abbrev pub check : CProgram → Check → CMemory → Now → Locals → Bool
check P c.Yes m now l = true
check P c.No m now l = false
check P (c.Chosen p i) m now l = slice_index_or m.states.chosen p 0 == i
check P (c.Flag s) m now l = slice_index_or m.states.flags s false
check P (c.Kept p i) m now l = slice_index_or m.states.kept p 0 == i
check P (c.IsEvent e) m now l = is_event e now.event
check P (c.IsResult x) m now l = l.result == x
check P (c.Both a b) m now l = check P a m now l && check P b m now l
check P (c.Not a) m now l = not (check P a m now l)

-- what `if` tests
abbrev pub truth_c : CProgram → Test → CMemory → Now → Locals → Result Bool Fault
truth_c P (c.Simple a) m now l = Ok (check P a m now l)
truth_c P c.HomeOn m now l = Ok (c_on P.tree P.numbers l.home m.states)
truth_c P c.HomeBare m now l = Ok (c_bare P.tree P.numbers l.home m.states)
truth_c P (c.Arithmetic e) m now l = P.sums.truth e m

-- one of two ways
abbrev pub branch : Result Bool Fault → CMemory → Out → Out → Out
branch (Ok true) m a b = a
branch (Ok false) m a b = b
branch (Err x) m a b = c.Failed m x

-- goes on where a statement fell through
abbrev pub and_on : Out → (CMemory → Locals → Out) → Out
and_on (c.Fell m l) go = go m l
and_on (c.Left m r) go = c.Left m r
and_on (c.Failed m x) go = c.Failed m x
and_on c.Starved go = c.Starved
and_on c.Wrong go = c.Wrong

-- goes on with what a function returned
abbrev pub and_with : Out → (CMemory → ℕ → Out) → Out
and_with (c.Fell m l) go = c.Wrong
and_with (c.Left m r) go = go m r
and_with (c.Failed m x) go = c.Failed m x
and_with c.Starved go = c.Starved
and_with c.Wrong go = c.Wrong

-- goes on with memory that a store gave
abbrev pub and_stored : Result CMemory Fault → CMemory → (CMemory → Out) → Out
and_stored (Ok m') m go = go m'
and_stored (Err x) m go = c.Failed m x

-- a fault where a bound is met
abbrev pub unless_met : Bool → Fault → CMemory → Out → Out
unless_met true x m go = c.Failed m x
unless_met false x m go = go

-- one step is paid
abbrev pub pay : Bounds → CMemory → (CMemory → Out) → Out
pay b m go = unless_met (nat_le b.steps m.used) faults.Steps m (go (record m { used = m.used + 1 }))

-- a call of a function: with the event and its depth, base, home and last result
abbrev pub Calls : Type 0
Calls = ℕ → Now → ℕ → ℕ → ℕ → CMemory → Out

-- one turn's call, where there is a note at the cursor
abbrev pub turn : Calls → Option ℕ → Now → CMemory → Locals → (CMemory → Locals → Out) → Out
turn call None now m l go = c.Wrong
turn call (Some p) now m l go = and_with (call p now (length m.notes) l.home l.result m)
    (λ m' r. go m' (record l { result = r }))

-- the `while` of `Play`
unfoldable pub turns : CProgram → Calls → ℕ → Now → CMemory → Locals → Out
turns P call zero now m l = c.Starved
turns P call (suc k) now m l =
    if nat_lt l.cursor (length m.notes) && c_bare P.tree P.numbers l.home m.states
    then pay P.bounds m (λ v. turn call (slice_get v.notes l.cursor) now v (record l { cursor = suc l.cursor })
    (turns P call k now))
    else c.Fell m l

-- the cursor before the first turn
abbrev pub from_base : Locals → Locals
from_base l = record l { cursor = if nat_lt l.cursor l.base then l.base else l.cursor }

-- statements
unfoldable pub exec : CProgram → Calls → ℕ → Now → Block → CMemory → Locals → Out
exec P call k now c.End m l = c.Fell m l
exec P call k now (c.Choose p i rest) m l = exec P call k now rest (with_states (choose_child p i m.states) m) l
exec P call k now (c.Mark s on rest) m l = exec P call k now rest (with_states (set_flag s on m.states) m) l
exec P call k now (c.Keep p i rest) m l =
    exec P call k now rest (with_states (record m.states { kept = slice_set m.states.kept p i }) m) l
exec P call k now (c.Store v x rest) m l = and_stored (P.sums.store v x m) m (λ v. exec P call k now rest v l)
exec P call k now (c.Put e rest) m l = exec P call k now rest (record m { outputs = m.outputs ++ e ∷ [] }) l
exec P call k now (c.Pay rest) m l = pay P.bounds m (λ v. exec P call k now rest v l)
exec P call k now (c.Deep rest) m l = unless_met (nat_le P.bounds.depth now.depth) faults.Depth m
    (exec P call k now rest m l)
exec P call k now (c.SetHome s rest) m l = exec P call k now rest m (record l { home = s })
exec P call k now (c.SetBase rest) m l = exec P call k now rest m (record l { base = length m.notes })
exec P call k now (c.Push p rest) m l = exec P call k now rest (record m { notes = m.notes ++ p ∷ [] }) l
exec P call k now (c.Pop rest) m l = exec P call k now rest (record m { notes = front m.notes }) l
exec P call k now (c.Call p rest) m l =
    and_with (call p now l.base l.home l.result m) (λ v r. exec P call k now rest v (record l { result = r }))
exec P call k now (c.Send e p rest) m l =
    and_with (call p (deeper e now) (length m.notes) 0 l.result m)
    (λ v r. exec P call k now rest v (record l { result = r }))
exec P call k now (c.Play rest) m l = and_on (turns P call k now m (from_base l)) (λ v u. exec P call k now rest v u)
exec P call k now (c.If t a b rest) m l =
    and_on (branch (truth_c P t m now l) m (exec P call k now a m l) (exec P call k now b m l))
    (λ v u. exec P call k now rest v u)
exec P call k now (c.Return i) m l = c.Left m i
exec P call k now c.ReturnResult m l = c.Left m l.result

-- a function begins with its parameters
abbrev pub begins : ℕ → ℕ → ℕ → Locals
begins base home r = record { base = base; home = home; result = r; cursor = 0 }

-- a function that falls through gives no value
abbrev pub closed : Out → Out
closed o = and_with o (λ m r. c.Left m r)

-- a call of a function
unfoldable pub call_fn : CProgram → ℕ → Calls
call_fn P zero p now base home r m = c.Starved
call_fn P (suc k) p now base home r m = closed (exec P (call_fn P k) k now (P.bodies p) m (begins base home r))
