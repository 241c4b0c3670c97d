-- The numbers of sound procedures are numbers of a text, where their results are.
use Rattle.std.proofs.Common.{◌≡◌, ℕ, suc, ◌+◌, ◌^◌, ◌≤◌, Bool, true, false, ◌&&◌, ◌||◌, nat_lt, List, [], ◌∷◌, length}
use Rattle.std.proofs.Common.{Option, Some, None, refl, arith, ltb-true}
use Rattle.std.specs.List.{AllByRecursion, list_any}
use Rattle.std.proofs.lemmas.Bool.Decides.{nat_tests}
use Rattle.active_config.specs.Tree.{state_count}
use Rattle.code_language.specs.declared.limits.TheConstants.{PROC_LIMIT, INSTR_LIMIT}
use Rattle.code_language.specs.Instrs.{Cond, On, Bare, OnHome, BareHome, Current}
use Rattle.code_language.specs.Instrs.{Result, Test, Last, Instr, Assign, Emit}
use Rattle.code_language.specs.Instrs.{Mark, Clear, Keep, Unless, Skip, Call, Visit}
use Rattle.code_language.specs.Instrs.{Send, SendTo, Play, Home, Begin, Pass}
use Rattle.code_language.specs.Instrs.{Ret}
use Rattle.code_language.specs.Sound.{AreSound, AreProcs}
use Rattle.code_language.specs.WellFormed.{Known, expr_known, cond_known, note_known}
use Rattle.code_language.specs.WellFormed.{instr_known, skips_within, is_event}
use Rattle.code_language.specs.WellFormed.{is_state, is_proc, is_datum}
use Rattle.code_language.proofs.Accepted.{first_true, second_true}
use Rattle.code_fields.specs.Spelling.{IsNumber}
use Rattle.code_lines.specs.Spelling.{CondHasNumbers, HasNote, HasNumbers}
use Rattle.chart_code.proofs.Results.{TestBelow, ResultBelow, ResultsBelow}

-- few enough of each
pub record FewKnown (K : Known) : Type 0 where
  pub states : state_count K.tree ≤ 1024
  pub vars : length K.names.vars ≤ 1024
  pub events : length K.names.events ≤ 1024
  pub procs : K.procs ≤ PROC_LIMIT

module _ (K : Known) (few : FewKnown K) where
  state_number : (s : ℕ) → is_state K s ≡ true → IsNumber s
  state_number s h = omega (arith, ltb-true s (state_count K.tree) h, few.states)

  event_number : (e : ℕ) → is_event K e ≡ true → IsNumber e
  event_number e h = omega (arith, ltb-true e (length K.names.events) h, few.events)

  datum_number : (v : ℕ) → is_datum K v ≡ true → IsNumber v
  datum_number v h = omega (arith, ltb-true v (length K.names.vars) h, few.vars)

  proc_number : (p : ℕ) → is_proc K p ≡ true → IsNumber p
  proc_number p h = omega (arith, ltb-true p K.procs h, few.procs)

  note_number : (tag : Option ℕ) → note_known K tag ≡ true → HasNote tag
  note_number None h = tt
  note_number (Some p) h = proc_number p h

  -- a procedure and its note
  call_numbers : (p : ℕ) (tag : Option ℕ) → (is_proc K p && note_known K tag) ≡ true → IsNumber p × HasNote tag
  call_numbers p tag h = (
    proc_number p (first_true (is_proc K p) (note_known K tag) h),
    note_number tag (second_true (is_proc K p) (note_known K tag) h),
  )

  -- a condition
  cond_numbers : (c : Cond) → cond_known K c ≡ true → TestBelow (2 ^ 32) c → CondHasNumbers c
  unfolding cond_known
  cond_numbers (On s) h r = state_number s h
  cond_numbers (Bare s) h r = state_number s h
  cond_numbers OnHome h r = tt
  cond_numbers BareHome h r = tt
  cond_numbers (Current e) h r = event_number e h
  cond_numbers (Result n) h r = r
  cond_numbers (Test x) h r = tt
  cond_numbers (Last s) h r = state_number s h

  -- a skip
  skip_number : (behind k : ℕ) → behind ≤ INSTR_LIMIT → nat_lt k behind ≡ true → IsNumber k
  skip_number behind k short h = omega (arith, ltb-true k behind h, short)

  -- an instruction
  instr_numbers : (behind : ℕ) → behind ≤ INSTR_LIMIT → (x : Instr) → instr_known K x ≡ true
      → skips_within behind x ≡ true → ResultBelow (2 ^ 32) x → HasNumbers x
  unfolding instr_known skips_within
  instr_numbers behind short (Assign v x) h k r = datum_number v (first_true (is_datum K v) (expr_known K x) h)
  instr_numbers behind short (Emit e) h k r = event_number e h
  instr_numbers behind short (Mark s) h k r = state_number s h
  instr_numbers behind short (Clear s) h k r = state_number s h
  instr_numbers behind short (Keep s) h k r = state_number s h
  instr_numbers behind short (Unless n c) h k r = (skip_number behind n short k, cond_numbers c h r)
  instr_numbers behind short (Skip n) h k r = skip_number behind n short k
  instr_numbers behind short (Call p tag) h k r = call_numbers p tag h
  instr_numbers behind short (Visit p tag) h k r = call_numbers p tag h
  instr_numbers behind short (Send e) h k r = event_number e h
  instr_numbers behind short (SendTo e s p) h k r =
      let rest = second_true (is_event K e) (is_state K s && is_proc K p) h in (
        event_number e (first_true (is_event K e) (is_state K s && is_proc K p) h),
        (
          state_number s (first_true (is_state K s) (is_proc K p) rest),
          proc_number p (second_true (is_state K s) (is_proc K p) rest),
        ),
      )
  instr_numbers behind short Play h k r = tt
  instr_numbers behind short (Home s) h k r = state_number s h
  instr_numbers behind short Begin h k r = tt
  instr_numbers behind short Pass h k r = tt
  instr_numbers behind short (Ret n) h k r = r

  -- the instructions of a procedure
  instrs_numbers : (p : ℕ) (is : List Instr) → length is ≤ INSTR_LIMIT → AreSound K p 0 is → ResultsBelow (2 ^ 32) is
      → AllByRecursion HasNumbers is
  instrs_numbers p [] short h r = tt
  instrs_numbers p (x ∷ is) short h r = (
    instr_numbers (length is + 0) (omega arith) x h.0.known h.0.within r.0,
    instrs_numbers p is (omega arith) h.1 r.1,
  )

  -- a procedure that isn't too long
  not_long : (is : List Instr) (procs : List (List Instr))
      → list_any (λ (js : List Instr). nat_lt INSTR_LIMIT (length js)) (is ∷ procs) ≡ false
      → (length is ≤ INSTR_LIMIT) × (list_any (λ (js : List Instr). nat_lt INSTR_LIMIT (length js)) procs ≡ false)
  not_long is procs h = by_test (nat_lt INSTR_LIMIT (length is)) refl h
    where
      by_test : (long : Bool) → nat_lt INSTR_LIMIT (length is) ≡ long
          → (long || list_any (λ (js : List Instr). nat_lt INSTR_LIMIT (length js)) procs) ≡ false
          → (length is ≤ INSTR_LIMIT) × (list_any (λ (js : List Instr). nat_lt INSTR_LIMIT (length js)) procs ≡ false)
      by_test true e g = absurd cc
      by_test false e g = (grind (arith, nat_tests), g)

  -- all procedures
  pub procs_numbers : (p : ℕ) (procs : List (List Instr)) → AreProcs K p procs
      → list_any (λ (js : List Instr). nat_lt INSTR_LIMIT (length js)) procs ≡ false → AllByRecursion (ResultsBelow (2 ^ 32)) procs
      → AllByRecursion (AllByRecursion HasNumbers) procs
  procs_numbers p [] h short r = tt
  procs_numbers p (is ∷ procs) h short r =
      let both = not_long is procs short in
      (instrs_numbers p is both.0 h.0.sound r.0, procs_numbers (suc p) procs h.1 both.1 r.1)
