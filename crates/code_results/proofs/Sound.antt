-- What is made of sound procedures is sound.
use Rattle.std.proofs.Common.{◌≡◌, ◌<◌, ℕ, zero, suc, ◌+◌, Bool, true, false, List, [], ◌∷◌, length, Option, Some}
use Rattle.std.proofs.Common.{None, refl, sym, ap, subst, arith}
use Rattle.std.specs.Prelude.{nat_lt}
use Rattle.std.proofs.lemmas.Bool.{lt-ltb, ltb-true}
use Rattle.code_language.specs.Instrs.{Cond, On, Bare, OnHome, BareHome, Current, Result, Test, Last}
use Rattle.code_language.specs.Instrs.{Instr, Assign, Emit, Mark, Clear, Keep, Unless, Skip, Call, Visit, Send}
use Rattle.code_language.specs.Instrs.{SendTo, Play, Home, Begin, Pass, Ret}
use Rattle.code_language.specs.Sound.{IsSound, AreSound, EndsInRet, IsProc, AreProcs}
use Rattle.code_language.specs.WellFormed.{Known, instr_known, skips_within, calls_lower, instr_typed, is_ret}
use Rattle.code_language.specs.WellFormed.{instr_keeps}
use Rattle.code_shrink.proofs.Sounder.{Ended, ended_rest, more_comes}
use Rattle.code_results.specs.Results.{Results, only, told}
use Rattle.code_results.specs.Folded.{Place, result_test, test_at, pass_at, call_at, folded_at, folded}
use Rattle.code_results.specs.Folded.{folded_procs}

-- a procedure has as many instructions as before
pub folded_size : (place : ℕ → Place) (i : ℕ) (is : List Instr) → length (folded place i is) ≡ length is
folded_size place i [] = refl
folded_size place i (x ∷ is) = ap suc (folded_size place (suc i) is)

module _ (K : Known) (p : ℕ) where
  -- a skip
  skip_sound : (k behind : ℕ) → nat_lt k behind ≡ true → IsSound K p behind (Skip k)
  unfolding instr_known skips_within calls_lower instr_typed instr_keeps
  skip_sound k behind h = record { known = refl; within = h; lower = refl; typed = refl; keeps = refl }

  -- a return
  ret_sound : (r behind : ℕ) → IsSound K p behind (Ret r)
  unfolding instr_known skips_within calls_lower instr_typed instr_keeps
  ret_sound r behind = record { known = refl; within = refl; lower = refl; typed = refl; keeps = refl }

  -- a test of the last result
  result_sound : (o : Option Bool) (k r behind : ℕ) → IsSound K p behind (Unless k (Result r))
      → IsSound K p behind (result_test o k r)
  unfolding skips_within
  result_sound None k r behind h = h
  result_sound (Some true) k r behind h =
      let more : k < behind = ltb-true k behind h.within in
      skip_sound 0 behind (lt-ltb 0 behind (omega (arith, more)))
  result_sound (Some false) k r behind h = skip_sound k behind h.within

  -- a test
  test_sound : (s : Results) (k : ℕ) (c : Cond) (behind : ℕ) → IsSound K p behind (Unless k c)
      → IsSound K p behind (test_at s k c)
  test_sound s k (On t) behind h = h
  test_sound s k (Bare t) behind h = h
  test_sound s k OnHome behind h = h
  test_sound s k BareHome behind h = h
  test_sound s k (Current e) behind h = h
  test_sound s k (Result r) behind h = result_sound (told s r) k r behind h
  test_sound s k (Test x) behind h = h
  test_sound s k (Last t) behind h = h

  -- a `Pass`
  pass_sound : (o : Option ℕ) (behind : ℕ) → IsSound K p behind Pass → 0 < behind → IsSound K p behind (pass_at o)
  pass_sound None behind h more = h
  pass_sound (Some zero) behind h more = skip_sound 0 behind (lt-ltb 0 behind more)
  pass_sound (Some (suc r)) behind h more = ret_sound (suc r) behind

  -- a call
  call_sound : (out : Bool) (q : ℕ) (tag : Option ℕ) (behind : ℕ) → IsSound K p behind (Call q tag) → 0 < behind
      → IsSound K p behind (call_at out q tag)
  call_sound false q tag behind h more = h
  call_sound true q tag behind h more = skip_sound 0 behind (lt-ltb 0 behind more)

  -- an instruction
  first_sound : (s : Place) (x : Instr) (behind : ℕ) → IsSound K p behind x → (is_ret x ≡ false → 0 < behind)
      → IsSound K p behind (folded_at s x)
  unfolding is_ret
  first_sound s (Assign v x) behind h more = h
  first_sound s (Emit e) behind h more = h
  first_sound s (Mark t) behind h more = h
  first_sound s (Clear t) behind h more = h
  first_sound s (Keep t) behind h more = h
  first_sound s (Unless k c) behind h more = test_sound s.results k c behind h
  first_sound s (Skip k) behind h more = h
  first_sound s (Call q tag) behind h more = call_sound s.left_out q tag behind h (more refl)
  first_sound s (Visit q tag) behind h more = h
  first_sound s (Send e) behind h more = h
  first_sound s (SendTo e t q) behind h more = h
  first_sound s Play behind h more = h
  first_sound s (Home t) behind h more = h
  first_sound s Begin behind h more = h
  first_sound s Pass behind h more = pass_sound (only s.results) behind h (more refl)
  first_sound s (Ret r) behind h more = h

  -- the instructions of a procedure
  folded_sound : (place : ℕ → Place) (i : ℕ) (is : List Instr) → AreSound K p 0 is → Ended is
      → AreSound K p 0 (folded place i is)
  folded_sound place i [] h ends = tt
  folded_sound place i (x ∷ is) h ends = (
    subst (λ l. IsSound K p (l + 0) (folded_at (place i) x)) (sym (folded_size place (suc i) is))
        (first_sound (place i) x (length is + 0) h.0 (λ e. let more = more_comes x is ends e in omega (arith, more))),
    folded_sound place (suc i) is h.1 (ended_rest x is ends),
  )

  -- a return stays one
  return_stays : (s : Place) (x : Instr) → is_ret x ≡ true → is_ret (folded_at s x) ≡ true
  unfolding is_ret
  return_stays s (Assign v x) e = absurd (cc e)
  return_stays s (Emit x) e = absurd (cc e)
  return_stays s (Mark t) e = absurd (cc e)
  return_stays s (Clear t) e = absurd (cc e)
  return_stays s (Keep t) e = absurd (cc e)
  return_stays s (Unless k c) e = absurd (cc e)
  return_stays s (Skip k) e = absurd (cc e)
  return_stays s (Call q tag) e = absurd (cc e)
  return_stays s (Visit q tag) e = absurd (cc e)
  return_stays s (Send x) e = absurd (cc e)
  return_stays s (SendTo x t q) e = absurd (cc e)
  return_stays s Play e = absurd (cc e)
  return_stays s (Home t) e = absurd (cc e)
  return_stays s Begin e = absurd (cc e)
  return_stays s Pass e = absurd (cc e)
  return_stays s (Ret r) e = refl

  -- the last instruction returns
  folded_ends : (place : ℕ → Place) (i : ℕ) (is : List Instr) → EndsInRet is → EndsInRet (folded place i is)
  folded_ends place i [] ends = ends
  folded_ends place i (x ∷ []) ends = return_stays (place i) x ends
  folded_ends place i (x ∷ (y ∷ is)) ends = folded_ends place (suc i) (y ∷ is) ends

  -- a whole procedure has its parts
  ended_all : (is : List Instr) → EndsInRet is → Ended is
  ended_all [] h = tt
  ended_all (x ∷ is) h = h

  -- a procedure is sound
  folded_is_proc : (place : ℕ → Place) (is : List Instr) → IsProc K p is → IsProc K p (folded place 0 is)
  folded_is_proc place is h = record {
    sound = folded_sound place 0 is h.sound (ended_all is h.ends);
    ends = folded_ends place 0 is h.ends;
  }

-- all procedures are
pub folded_are_procs : (K : Known) (place : ℕ → ℕ → Place) (p : ℕ) (procs : List (List Instr)) → AreProcs K p procs
    → AreProcs K p (folded_procs place p procs)
folded_are_procs K place p [] h = tt
folded_are_procs K place p (is ∷ procs) h =
    (folded_is_proc K p (place p) is h.0, folded_are_procs K place (suc p) procs h.1)
