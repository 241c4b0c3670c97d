-- A sound procedure in which lower procedures stand for others is sound.
use Rattle.std.proofs.Common.{◌≡◌, ◌≤◌, ◌<◌, ℕ, ◌+◌, true, List, [], ◌∷◌, length, Option, Some, None}
use Rattle.std.proofs.Common.{refl, sym, ap, subst, arith}
use Rattle.std.specs.Prelude.{◌&&◌}
use Rattle.std.proofs.lemmas.Bool.{lt-ltb, ltb-true, and_from}
use Rattle.std.proofs.lemmas.List.{length-map}
use Rattle.code_language.specs.Instrs.{Instr, Assign, Emit, Mark, Clear, Keep, Unless, Skip, Call, Visit, Send}
use Rattle.code_language.specs.Instrs.{SendTo, Play, Home, Begin, Pass, Ret}
use Rattle.code_language.specs.Sound.{IsSound, AreSound, EndsInRet, IsProc}
use Rattle.code_language.specs.WellFormed.{Known, is_proc, is_state, is_event, note_known, instr_known}
use Rattle.code_language.specs.WellFormed.{skips_within, calls_lower, instr_typed, is_ret, instr_keeps}
use Rattle.code_language.proofs.Accepted.{first_true, second_true}
use Rattle.code_shrink.specs.Follows.{note_by, renamed}
use Rattle.code_merging.specs.Merged.{under}

module _ (K : Known) (p : ℕ) (m : ℕ → ℕ) (lower : (q : ℕ) → q < K.procs → m q ≤ q) where
  -- what stands for a procedure is there
  there : (q : ℕ) → is_proc K q ≡ true → is_proc K (m q) ≡ true
  there q h =
      let within = ltb-true q K.procs h in let low = lower q within in lt-ltb (m q) K.procs (omega (arith, within, low))

  -- what stands for a note is there
  note_there : (tag : Option ℕ) → note_known K tag ≡ true → note_known K (note_by m tag) ≡ true
  note_there None h = refl
  note_there (Some q) h = there q h

  -- both are
  call_there : (q : ℕ) (tag : Option ℕ) → (is_proc K q && note_known K tag) ≡ true
      → (is_proc K (m q) && note_known K (note_by m tag)) ≡ true
  call_there q tag h =
      and_from (is_proc K (m q)) (note_known K (note_by m tag))
      (there q (first_true (is_proc K q) (note_known K tag) h))
      (note_there tag (second_true (is_proc K q) (note_known K tag) h))

  -- an instruction is sound
  renamed_sound : (x : Instr) (behind : ℕ) → IsSound K p behind x → IsSound K p behind (renamed m x)
  unfolding renamed instr_known skips_within calls_lower instr_typed instr_keeps
  renamed_sound (Assign v x) behind h = h
  renamed_sound (Emit e) behind h = h
  renamed_sound (Mark s) behind h = h
  renamed_sound (Clear s) behind h = h
  renamed_sound (Keep s) behind h = h
  renamed_sound (Unless k c) behind h = h
  renamed_sound (Skip k) behind h = h
  renamed_sound (Call q tag) behind h =
      let known = h.known in
      let within = ltb-true q K.procs (first_true (is_proc K q) (note_known K tag) known) in
      let less = ltb-true q p h.lower in
      let low = lower q within in
      record {
        known = call_there q tag known;
        within = refl;
        lower = lt-ltb (m q) p (omega (arith, less, low));
        typed = refl;
        keeps = refl;
      }
  renamed_sound (Visit q tag) behind h =
      record { known = call_there q tag h.known; within = refl; lower = refl; typed = refl; keeps = refl }
  renamed_sound (Send e) behind h = h
  renamed_sound (SendTo e s q) behind h =
      let rest = second_true (is_event K e) (is_state K s && is_proc K q) h.known in
      record {
        known =
            and_from (is_event K e) (is_state K s && is_proc K (m q))
            (first_true (is_event K e) (is_state K s && is_proc K q) h.known)
            (and_from (is_state K s) (is_proc K (m q)) (first_true (is_state K s) (is_proc K q) rest)
            (there q (second_true (is_state K s) (is_proc K q) rest)));
        within = refl;
        lower = refl;
        typed = h.typed;
        keeps = refl;
      }
  renamed_sound Play behind h = h
  renamed_sound (Home s) behind h = h
  renamed_sound Begin behind h = h
  renamed_sound Pass behind h = h
  renamed_sound (Ret r) behind h = h

  -- instructions are sound
  under_sound : (is : List Instr) → AreSound K p 0 is → AreSound K p 0 (under m is)
  under_sound [] h = tt
  under_sound (x ∷ is) h =
      let size : length is + 0 ≡ length (under m is) + 0 = ap (λ n. n + 0) (sym (length-map is (renamed m))) in
      (subst (λ n. IsSound K p n (renamed m x)) size (renamed_sound x (length is + 0) h.0), under_sound is h.1)

  -- it returns where it did
  renamed_ret : (x : Instr) → is_ret x ≡ true → is_ret (renamed m x) ≡ true
  unfolding renamed is_ret
  renamed_ret (Assign v x) h = h
  renamed_ret (Emit e) h = h
  renamed_ret (Mark s) h = h
  renamed_ret (Clear s) h = h
  renamed_ret (Keep s) h = h
  renamed_ret (Unless k c) h = h
  renamed_ret (Skip k) h = h
  renamed_ret (Call q tag) h = h
  renamed_ret (Visit q tag) h = h
  renamed_ret (Send e) h = h
  renamed_ret (SendTo e s q) h = h
  renamed_ret Play h = h
  renamed_ret (Home s) h = h
  renamed_ret Begin h = h
  renamed_ret Pass h = h
  renamed_ret (Ret r) h = h

  -- the last one returns
  under_ends : (is : List Instr) → EndsInRet is → EndsInRet (under m is)
  under_ends [] h = h
  under_ends (x ∷ []) h = renamed_ret x h
  under_ends (x ∷ (y ∷ is)) h = under_ends (y ∷ is) h

  -- a procedure is sound
  pub under_proc : (is : List Instr) → IsProc K p is → IsProc K p (under m is)
  under_proc is h = record { sound = under_sound is h.sound; ends = under_ends is h.ends }
