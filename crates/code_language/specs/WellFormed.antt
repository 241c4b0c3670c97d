-- Which code is well formed: the first fault, in the order in which faults are looked for.
use Rattle.std.specs.Prelude.{◌≡◌, ◌+◌, ℕ, nat_lt, pos, int_lt, int_le, Bool, true, false, not, ◌&&◌, ◌||◌}
use Rattle.std.specs.Prelude.{List, [], ◌∷◌, length, Option, Some, None, Ok, Err, slice_get, if◌then◌else◌}
use Rattle.std.specs.List.{list_any}
use Rattle.std.specs.Option.{option_map_or}
use Rattle.flow_base.specs.declared.chart_limits.TheConstants.{OPERATOR_LIMIT}
use Rattle.fixed_point.specs.declared.num.Num.{Num}
use Rattle.fixed_point.specs.declared.rounding.TheConstants.{READ_LIMIT}
use Rattle.fixed_point.specs.declared.scale.TheConstants.{PLACES_LIMIT}
use Rattle.active_config.specs.Tree.{Tree, state_count, parent_of, comp_of, is_or}
use Rattle.actions.specs.declared.names.EventDecl.{EventDecl}
use Rattle.actions.specs.declared.names.EventKind.{EventKind}
use Rattle.actions.specs.declared.names.EventKind.TheVariants as event_kinds
use Rattle.actions.specs.declared.names.Var.{Var}
use Rattle.actions.specs.declared.names.VarKind.{VarKind}
use Rattle.actions.specs.declared.names.VarKind.TheVariants as var_kinds
use Rattle.actions.specs.declared.sort.ExprFault.{ExprFault}
use Rattle.actions.specs.declared.sort.ExprSort.TheVariants as sorts
use Rattle.actions.specs.Exprs.{Expr, Lit, Flag, Read, Active, Neg, Not, Bin}
use Rattle.actions.specs.Names.{Names}
use Rattle.actions.specs.Sorts.{Sorted, scope_of, sort_of, assignment_fault}
use Rattle.checked_chart.specs.Expressions.{operator_count}
use Rattle.code_language.specs.declared.fault.CodeEnd.{CodeEnd}
use Rattle.code_language.specs.declared.fault.CodeEnd.TheVariants as ends
use Rattle.code_language.specs.declared.fault.CodeFault.{CodeFault}
use Rattle.code_language.specs.declared.fault.CodeKind.{CodeKind}
use Rattle.code_language.specs.declared.fault.CodeKind.TheVariants as kinds
use Rattle.code_language.specs.declared.limits.TheConstants.{PROC_LIMIT, INSTR_LIMIT, HEIGHT_LIMIT, WORK_LIMIT}
use Rattle.code_language.specs.Code.{Code, Procedures}
use Rattle.code_language.specs.Instrs.{Cond, On, Bare, OnHome, BareHome, Current, Result as ResultIs, Test, Last}
use Rattle.code_language.specs.Instrs.{Instr, Assign, Emit, Mark, Clear, Keep, Unless, Skip, Call, Visit, Send, SendTo}
use Rattle.code_language.specs.Instrs.{Play, Home, Begin, Pass, Ret}
use Rattle.code_language.specs.Measures.{heights, works}
use Rattle.code_language.specs.Tables.{IsTable}

-- what instructions may name: the states of a tree, what is declared, and so many procedures
pub record Known : Type 0 where
  pub tree : Tree
  pub names : Names
  pub procs : ℕ

-- the same with another number of procedures
abbrev pub with_procs : Known → ℕ → Known
with_procs K n = record K { procs = n }

-- a fault at a place
abbrev pub fault_at : CodeKind → ℕ → ℕ → Option CodeFault
fault_at kind p i = Some (record { kind = kind; proc = p; place = i })

-- the first of two faults
abbrev pub first_of : Option CodeFault → Option CodeFault → Option CodeFault
first_of None later = later
first_of (Some fault) later = Some fault

-- a fault unless the test holds
abbrev pub unless : Bool → CodeKind → ℕ → ℕ → Option CodeFault
unless good kind p i = if good then None else fault_at kind p i

-- ---- BadNumber: what an instruction names is there

-- the state is there
abbrev pub is_state : Known → ℕ → Bool
is_state K s = nat_lt s (state_count K.tree)

-- the datum is there
abbrev pub is_datum : Known → ℕ → Bool
is_datum K v = nat_lt v (length K.names.vars)

-- the event is there
abbrev pub is_event : Known → ℕ → Bool
is_event K e = nat_lt e (length K.names.events)

-- the procedure is there
abbrev pub is_proc : Known → ℕ → Bool
is_proc K p = nat_lt p K.procs

-- the data and the states that an expression names are there
unfoldable pub expr_known : Known → Expr → Bool
expr_known K (Lit n) = true
expr_known K (Flag b) = true
expr_known K (Read v) = is_datum K v
expr_known K (Active s) = is_state K s
expr_known K (Neg a) = expr_known K a
expr_known K (Not a) = expr_known K a
expr_known K (Bin op a b) = expr_known K a && expr_known K b

-- what a condition names is there
unfoldable pub cond_known : Known → Cond → Bool
cond_known K (On s) = is_state K s
cond_known K (Bare s) = is_state K s
cond_known K OnHome = true
cond_known K BareHome = true
cond_known K (Current e) = is_event K e
cond_known K (ResultIs r) = true
cond_known K (Test x) = expr_known K x
cond_known K (Last s) = is_state K s

-- a note, where there is one, is a procedure
abbrev pub note_known : Known → Option ℕ → Bool
note_known K tag = option_map_or (is_proc K) tag true

-- what an instruction names is there
unfoldable pub instr_known : Known → Instr → Bool
instr_known K (Assign v x) = is_datum K v && expr_known K x
instr_known K (Emit e) = is_event K e
instr_known K (Mark s) = is_state K s
instr_known K (Clear s) = is_state K s
instr_known K (Keep s) = is_state K s
instr_known K (Unless k c) = cond_known K c
instr_known K (Skip k) = true
instr_known K (Call p tag) = is_proc K p && note_known K tag
instr_known K (Visit p tag) = is_proc K p && note_known K tag
instr_known K (Send e) = is_event K e
instr_known K (SendTo e s p) = is_event K e && (is_state K s && is_proc K p)
instr_known K Play = true
instr_known K (Home s) = is_state K s
instr_known K Begin = true
instr_known K Pass = true
instr_known K (Ret r) = true

-- ---- SkipOut and CallNotLower

-- it passes over fewer instructions than stand after it
unfoldable pub skips_within : ℕ → Instr → Bool
skips_within behind (Assign v x) = true
skips_within behind (Emit e) = true
skips_within behind (Mark s) = true
skips_within behind (Clear s) = true
skips_within behind (Keep s) = true
skips_within behind (Unless k c) = nat_lt k behind
skips_within behind (Skip k) = nat_lt k behind
skips_within behind (Call p tag) = true
skips_within behind (Visit p tag) = true
skips_within behind (Send e) = true
skips_within behind (SendTo e s p) = true
skips_within behind Play = true
skips_within behind (Home s) = true
skips_within behind Begin = true
skips_within behind Pass = true
skips_within behind (Ret r) = true

-- in procedure p it calls a lower one
unfoldable pub calls_lower : ℕ → Instr → Bool
calls_lower p (Assign v x) = true
calls_lower p (Emit e) = true
calls_lower p (Mark s) = true
calls_lower p (Clear s) = true
calls_lower p (Keep s) = true
calls_lower p (Unless k c) = true
calls_lower p (Skip k) = true
calls_lower p (Call q tag) = nat_lt q p
calls_lower p (Visit q tag) = true
calls_lower p (Send e) = true
calls_lower p (SendTo e s q) = true
calls_lower p Play = true
calls_lower p (Home s) = true
calls_lower p Begin = true
calls_lower p Pass = true
calls_lower p (Ret r) = true

-- ---- CodeTypes

-- a literal whose mantissa is at least 0 and below `READ_LIMIT`, and whose fraction is at most 32
abbrev pub is_literal : Num → Bool
is_literal n = int_le (pos 0) n.mantissa && (int_lt n.mantissa (pos READ_LIMIT) && nat_lt n.frac (PLACES_LIMIT + 1))

-- every literal of an expression is such
unfoldable pub has_literals : Expr → Bool
has_literals (Lit n) = is_literal n
has_literals (Flag b) = true
has_literals (Read v) = true
has_literals (Active s) = true
has_literals (Neg a) = has_literals a
has_literals (Not a) = has_literals a
has_literals (Bin op a b) = has_literals a && has_literals b

-- an expression that is short enough, with such literals
abbrev pub is_plain : Expr → Bool
is_plain x = not (nat_lt OPERATOR_LIMIT (operator_count x)) && has_literals x

-- an expression that is a flag
abbrev pub is_flag : Sorted → Bool
is_flag (Ok sorts.Flag) = true
is_flag (Ok (sorts.Number frac size)) = false
is_flag (Err fault) = false

-- a datum that code may assign to: no input
abbrev pub is_assigned : VarKind → Bool
is_assigned var_kinds.Input = false
is_assigned var_kinds.Output = true
is_assigned var_kinds.Local = true

-- no fault
abbrev pub is_fine : Option ExprFault → Bool
is_fine None = true
is_fine (Some fault) = false

-- a datum takes what an expression gives: of its sort and not too wide
abbrev pub takes : Var → Sorted → Bool
takes v (Ok given) = is_assigned v.kind && is_fine (assignment_fault v.sort given)
takes v (Err fault) = false

-- an output event
abbrev pub is_output : EventKind → Bool
is_output event_kinds.Input = false
is_output event_kinds.Local = false
is_output event_kinds.Output = true

-- a local event
abbrev pub is_local : EventKind → Bool
is_local event_kinds.Input = false
is_local event_kinds.Local = true
is_local event_kinds.Output = false

-- an event that can be current
abbrev pub is_trigger : EventKind → Bool
is_trigger event_kinds.Input = true
is_trigger event_kinds.Local = true
is_trigger event_kinds.Output = false

-- the event is declared, and its kind is such
abbrev pub event_is : Known → (EventKind → Bool) → ℕ → Bool
event_is K good e = option_map_or (λ (decl : EventDecl). good decl.kind) (slice_get K.names.events e) false

-- the types of a condition are right
unfoldable pub cond_typed : Known → Cond → Bool
cond_typed K (On s) = true
cond_typed K (Bare s) = true
cond_typed K OnHome = true
cond_typed K BareHome = true
cond_typed K (Current e) = event_is K is_trigger e
cond_typed K (ResultIs r) = true
cond_typed K (Test x) = is_plain x && is_flag (sort_of (scope_of K.names) x)
cond_typed K (Last s) = true

-- the types of an instruction are right
unfoldable pub instr_typed : Known → Instr → Bool
instr_typed K (Assign v x) =
    is_plain x && option_map_or (λ decl. takes decl (sort_of (scope_of K.names) x)) (slice_get K.names.vars v) false
instr_typed K (Emit e) = event_is K is_output e
instr_typed K (Mark s) = true
instr_typed K (Clear s) = true
instr_typed K (Keep s) = true
instr_typed K (Unless k c) = cond_typed K c
instr_typed K (Skip k) = true
instr_typed K (Call p tag) = true
instr_typed K (Visit p tag) = true
instr_typed K (Send e) = event_is K is_local e
instr_typed K (SendTo e s p) = event_is K is_local e
instr_typed K Play = true
instr_typed K (Home s) = true
instr_typed K Begin = true
instr_typed K Pass = true
instr_typed K (Ret r) = true

-- ---- NoRet

-- it returns, whatever the last result is
unfoldable pub is_ret : Instr → Bool
is_ret (Assign v x) = false
is_ret (Emit e) = false
is_ret (Mark s) = false
is_ret (Clear s) = false
is_ret (Keep s) = false
is_ret (Unless k c) = false
is_ret (Skip k) = false
is_ret (Call p tag) = false
is_ret (Visit p tag) = false
is_ret (Send e) = false
is_ret (SendTo e s p) = false
is_ret Play = false
is_ret (Home s) = false
is_ret Begin = false
is_ret Pass = false
is_ret (Ret r) = true

-- the last instruction of a procedure returns
abbrev pub last_returns : Instr → List Instr → Bool
last_returns x [] = is_ret x
last_returns x (y ∷ rest) = true

-- ---- BadKeep

-- a state that can be remembered: its parent is an OR
abbrev pub can_be_kept : Tree → ℕ → Bool
can_be_kept t s = option_map_or (λ p. is_or (comp_of t p)) (parent_of t s) false

-- a condition looks only at such a state's memory
unfoldable pub cond_keeps : Known → Cond → Bool
cond_keeps K (On s) = true
cond_keeps K (Bare s) = true
cond_keeps K OnHome = true
cond_keeps K BareHome = true
cond_keeps K (Current e) = true
cond_keeps K (ResultIs r) = true
cond_keeps K (Test x) = true
cond_keeps K (Last s) = can_be_kept K.tree s

-- an instruction keeps only such a state
unfoldable pub instr_keeps : Known → Instr → Bool
instr_keeps K (Assign v x) = true
instr_keeps K (Emit e) = true
instr_keeps K (Mark s) = true
instr_keeps K (Clear s) = true
instr_keeps K (Keep s) = can_be_kept K.tree s
instr_keeps K (Unless k c) = cond_keeps K c
instr_keeps K (Skip k) = true
instr_keeps K (Call p tag) = true
instr_keeps K (Visit p tag) = true
instr_keeps K (Send e) = true
instr_keeps K (SendTo e s p) = true
instr_keeps K Play = true
instr_keeps K (Home s) = true
instr_keeps K Begin = true
instr_keeps K Pass = true
instr_keeps K (Ret r) = true

-- ---- procedures

-- the first fault of the instruction x at place i of procedure p, where the rest stands after it
unfoldable pub instr_fault : Known → ℕ → ℕ → Instr → List Instr → Option CodeFault
instr_fault K p i x rest =
    first_of (unless (instr_known K x) kinds.BadNumber p i)
    (first_of (unless (skips_within (length rest) x) kinds.SkipOut p i)
    (first_of (unless (calls_lower p x) kinds.CallNotLower p i)
    (first_of (unless (instr_typed K x) kinds.CodeTypes p i)
    (first_of (unless (last_returns x rest) kinds.NoRet p i) (unless (instr_keeps K x) kinds.BadKeep p i)))))

-- the first fault of the instructions from place i on
unfoldable pub instrs_fault : Known → ℕ → ℕ → List Instr → Option CodeFault
instrs_fault K p i [] = None
instrs_fault K p i (x ∷ rest) = first_of (instr_fault K p i x rest) (instrs_fault K p (i + 1) rest)

-- the first fault of procedure p
unfoldable pub proc_fault : Known → ℕ → List Instr → Option CodeFault
proc_fault K p [] = fault_at kinds.NoRet p 0
proc_fault K p (x ∷ rest) = instrs_fault K p 0 (x ∷ rest)

-- the first fault of the procedures from number p on
unfoldable pub procs_fault : Known → ℕ → List (List Instr) → Option CodeFault
procs_fault K p [] = None
procs_fault K p (is ∷ rest) = first_of (proc_fault K p is) (procs_fault K (p + 1) rest)

-- a fault of the first procedure, from number p on, whose number is over a limit
unfoldable pub first_over : ℕ → CodeKind → ℕ → List ℕ → Option CodeFault
first_over limit kind p [] = None
first_over limit kind p (n ∷ rest) =
    first_of (unless (not (nat_lt limit n)) kind p 0) (first_over limit kind (p + 1) rest)

-- ---- the whole

-- what the instructions of code may name
abbrev pub known_of : Code → Known
known_of k = record { tree = k.tree; names = k.names; procs = length k.procedures.procs }

-- more than PROC_LIMIT procedures, or a procedure of more than INSTR_LIMIT instructions
abbrev pub too_many : List (List Instr) → Bool
too_many procs =
    nat_lt PROC_LIMIT (length procs) || list_any (λ (is : List Instr). nat_lt INSTR_LIMIT (length is)) procs

-- the procedures of the start and of a reaction are there
abbrev pub starts_known : Procedures → Bool
starts_known k = nat_lt k.start (length k.procs) && nat_lt k.react (length k.procs)

-- the first fault where there are not too many procedures and the tables are right: numbers, then the instructions
-- by procedure and place, then heights, then works
unfoldable pub later_fault : Code → Option CodeFault
later_fault k =
    first_of (unless (starts_known k.procedures) kinds.BadNumber 0 0)
    (first_of (procs_fault (known_of k) 0 k.procedures.procs)
    (first_of (first_over HEIGHT_LIMIT kinds.TooHigh 0 (heights k.procedures.procs))
    (first_over WORK_LIMIT kinds.TooMuchWork 0 (works k.procedures.procs))))

-- the code is well formed: it has no fault
pub record IsCode (k : Code) : Type 0 where
  pub few : too_many k.procedures.procs ≡ false
  pub table : IsTable k.tree k.names
  pub sound : later_fault k ≡ None

-- the first fault of code: too many procedures or too long ones, then the tables, then the others
pub data IsFirstFault (k : Code) : CodeFault → Type 0 where
  TooMany : too_many k.procedures.procs ≡ true
      → IsFirstFault k (record { kind = kinds.TooManyProcs; proc = 0; place = 0 })
  BadTable : too_many k.procedures.procs ≡ false → ¬ IsTable k.tree k.names
      → IsFirstFault k (record { kind = kinds.BadTable; proc = 0; place = 0 })
  Later : (fault : CodeFault) → too_many k.procedures.procs ≡ false → IsTable k.tree k.names
      → later_fault k ≡ Some fault → IsFirstFault k fault

-- why code isn't accepted: its first fault; Memory is allowed for every code
abbrev pub IsCause : Code → CodeEnd → Type 0
IsCause k (ends.Fault fault) = IsFirstFault k fault
IsCause k ends.Memory = Unit {0}
