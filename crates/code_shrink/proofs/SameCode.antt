-- Neat code comes back as it is: the whole code.
use Rattle.std.proofs.Common.{◌≡◌, ◌<◌, ◌≤◌, ⊎_elim, ℕ, zero, suc, ◌+◌, Bool, true, false, List, [], ◌∷◌, length}
use Rattle.std.proofs.Common.{Option, Some, None}
use Rattle.std.proofs.Common.{refl, sym, ap, ◌∙◌, subst, arith}
use Rattle.std.specs.Prelude.{slice_get, slice_index_or, ◌&&◌}
use Rattle.std.proofs.lemmas.Bool.{ltb-true}
use Rattle.code_language.specs.Code.{Code, instructions, fetch}
use Rattle.code_language.specs.Instrs.{Cond, OnHome, Instr, Assign, Emit, Mark, Clear, Keep, Unless, Skip, Call, Visit}
use Rattle.code_language.specs.Instrs.{Send}
use Rattle.code_language.specs.Instrs.{SendTo, Play, Home, Begin, Pass, Ret}
use Rattle.code_language.specs.Sound.{AreSound}
use Rattle.code_language.specs.WellFormed.{Known, known_of, is_state, is_event, is_proc, note_known, instr_known}
use Rattle.code_language.specs.WellFormed.{skips_within, IsCode}
use Rattle.code_language.proofs.Accepted.{first_true, second_true}
use Rattle.code_language.proofs.Sound.{code_parts, proc_at, or_none, instructions_at}
use Rattle.code_shrink.specs.Follows.{renamed, note_by}
use Rattle.code_shrink.specs.Neat.{Comes, IsReached, AtStart, AtReaction, Named, IsNeat, IsNeatProcedure}
use Rattle.code_shrink.specs.Smaller.{count, one_if, straight, smaller}
use Rattle.code_shrink.specs.Whole.{keep_if, is_live, number_in, collected, smaller_code, AreReached}
use Rattle.code_shrink.specs.Whole.{IsLive, LiveStart, LiveReaction, LiveNamed, AllReached, IsExact}
use Rattle.code_shrink.proofs.Same.{AllSet, JumpsWithin, KeepNumbers, tidy_of, straight_stays, neat_stays}
use Rattle.code_shrink.proofs.Tidy.{within, before_or_not}

-- flags that are all set
set_all : (bs : List Bool) (is : List Instr) → length bs ≡ length is
    → ((i : ℕ) → i < length is → slice_index_or bs i false ≡ true) → AllSet bs is
set_all [] [] e h = tt
set_all [] (x ∷ is) e h = absurd (omega (arith, e))
set_all (b ∷ bs) [] e h = absurd (omega (arith, e))
set_all (b ∷ bs) (x ∷ is) e h =
    (h 0 (omega arith), set_all bs is (omega (arith, e)) (λ i l. h (suc i) (omega (arith, l))))

-- a jump of an instruction with so many after it
jump_inside : (x : Instr) (n k : ℕ) (c : Cond) → skips_within n x ≡ true
    → (x ≡ Unless k c → k < n) × (x ≡ Skip k → k < n)
unfolding skips_within
jump_inside x n k c h = (
  λ e. ltb-true k n (sym (ap (skips_within n) e) ∙ h),
  λ e. ltb-true k n (sym (ap (skips_within n) e) ∙ h),
)

-- jumps of sound instructions stay within
jumps_of : (K : Known) (p : ℕ) (is : List Instr) → AreSound K p 0 is → JumpsWithin is
jumps_of K p [] h = tt
jumps_of K p (x ∷ is) h =
    let n : length is + 0 ≡ length is = omega arith in
    let w = subst (λ m. skips_within m x ≡ true) n h.0.within in (
      (λ k c e. (jump_inside x (length is) k c w).0 e, λ k e. (jump_inside x (length is) k OnHome w).1 e),
      jumps_of K p is h.1,
    )

module _ (K : Known) (m : ℕ → ℕ) (same : (q : ℕ) → q < K.procs → m q ≡ q) where
  -- a note keeps its number
  note_same : (tag : Option ℕ) → note_known K tag ≡ true → note_by m tag ≡ tag
  note_same None h = refl
  note_same (Some q) h = ap Some (same q (ltb-true q K.procs h))

  -- an instruction keeps the numbers that it names
  renamed_same : (x : Instr) → instr_known K x ≡ true → renamed m x ≡ x
  unfolding renamed instr_known
  renamed_same (Assign v x) h = refl
  renamed_same (Emit e) h = refl
  renamed_same (Mark s) h = refl
  renamed_same (Clear s) h = refl
  renamed_same (Keep s) h = refl
  renamed_same (Call p tag) h =
      ap (λ q. Call q (note_by m tag)) (same p (ltb-true p K.procs (first_true (is_proc K p) (note_known K tag) h)))
      ∙ ap (λ t. Call p t) (note_same tag (second_true (is_proc K p) (note_known K tag) h))
  renamed_same (Visit p tag) h =
      ap (λ q. Visit q (note_by m tag)) (same p (ltb-true p K.procs (first_true (is_proc K p) (note_known K tag) h)))
      ∙ ap (λ t. Visit p t) (note_same tag (second_true (is_proc K p) (note_known K tag) h))
  renamed_same (Send e) h = refl
  renamed_same (SendTo e s p) h =
      ap (λ q. SendTo e s q) (same p (ltb-true p K.procs
      (second_true (is_state K s) (is_proc K p) (second_true (is_event K e) (is_state K s && is_proc K p) h))))
  renamed_same Play h = refl
  renamed_same (Home s) h = refl
  renamed_same Begin h = refl
  renamed_same Pass h = refl
  renamed_same (Unless k c) h = refl
  renamed_same (Skip k) h = refl
  renamed_same (Ret r) h = refl

  -- so do all instructions
  numbers_kept : (p : ℕ) (is : List Instr) → AreSound K p 0 is → KeepNumbers m is
  numbers_kept p [] h = tt
  numbers_kept p (x ∷ is) h = (renamed_same x h.0.known, numbers_kept p is h.1)

-- where the first ones are all kept their number is counted
first_counted : (q : ℕ) (live : List Bool) → ((i : ℕ) → i < q → is_live live i ≡ true) → count q live ≡ q
first_counted zero live h = refl
first_counted (suc q) [] h = absurd (cc (h 0 (omega arith)))
first_counted (suc q) (b ∷ live) h =
    ap (λ c. one_if c (count q live)) (h 0 (omega arith))
    ∙ ap suc (first_counted q live (λ i l. h (suc i) (omega (arith, l))))

-- procedures that all stay are the same
collected_same : (m : ℕ → ℕ) (live : List Bool) (flags : List (List Bool)) (procs : List (List Instr))
    → AllReached live flags procs → ((i : ℕ) → i < length procs → is_live live i ≡ true)
    → ((i : ℕ) (is : List Instr) (bs : List Bool) → slice_get procs i ≡ Some is → AreReached (straight is) bs
    → smaller m bs is ≡ is) → collected m live flags procs ≡ procs
collected_same m [] [] [] all lives same = refl
collected_same m [] [] (is ∷ procs) all lives same = absurd all
collected_same m [] (bs ∷ flags) procs all lives same = absurd all
collected_same m (b ∷ live) [] procs all lives same = absurd all
collected_same m (b ∷ live) (bs ∷ flags) [] all lives same = absurd all
collected_same m (b ∷ live) (bs ∷ flags) (is ∷ procs) all lives same =
    let first = lives 0 (omega arith) in
    ap (λ c. keep_if c (smaller m bs is) (collected m live flags procs)) first
    ∙ ap (λ l. l ∷ collected m live flags procs) (same 0 is bs refl (all.0 first))
    ∙ ap (λ l. is ∷ l) (collected_same m live flags procs all.1 (λ i l. lives (suc i) (omega (arith, l)))
    (λ i js cs e r. same (suc i) js cs e r))

-- past the last procedure there are no instructions
none_past : (procs : List (List Instr)) (p : ℕ) → length procs ≤ p → slice_index_or procs p [] ≡ []
none_past [] p h = refl
none_past (is ∷ procs) zero h = absurd (omega arith)
none_past (is ∷ procs) (suc p) h = none_past procs p (omega (arith, h))

module _ (live : List Bool) (flags : List (List Bool)) (k : Code) (well : IsCode k)
    (exact : IsExact live flags k.procedures) (neat : IsNeat k.procedures) where
  -- procedures of neat code are straight
  straight_same : (p : ℕ) → straight (instructions k.procedures p) ≡ instructions k.procedures p
  unfolding instructions
  straight_same p =
      ⊎_elim (λ (h : p < length k.procedures.procs).
      straight_stays (slice_index_or k.procedures.procs p [])
      (tidy_of (slice_index_or k.procedures.procs p []) (neat.each p h)))
      (λ (h : length k.procedures.procs ≤ p).
      let e = none_past k.procedures.procs p h in ap straight e ∙ sym e)
      (before_or_not p (length k.procedures.procs))

  -- an instruction stands only in a procedure that is there
  proc_is_there : (p i : ℕ) (x : Instr) → slice_get (slice_index_or k.procedures.procs p []) i ≡ Some x
      → p < length k.procedures.procs
  proc_is_there p i x e =
      ⊎_elim (λ (h : p < length k.procedures.procs). h)
      (λ (h : length k.procedures.procs ≤ p).
      let none = sym (ap (λ l. slice_get l i) (none_past k.procedures.procs p h)) ∙ e in absurd (cc none))
      (before_or_not p (length k.procedures.procs))

  -- what is reached in neat code is reached in its straight procedures
  still_live : (p : ℕ) → IsReached k.procedures p → IsLive k.procedures p
  unfolding fetch instructions
  still_live _ AtStart = LiveStart
  still_live _ AtReaction = LiveReaction
  still_live _ (Named p i q x r e n) =
      let there = proc_is_there p i x e in
      let same = sym (straight_same p) in
      LiveNamed p i q x (still_live p r)
      (subst (λ l. Comes l i) same ((neat.each p there).reached i
      (within (slice_index_or k.procedures.procs p []) i x e)))
      (ap (λ l. slice_get l i) (sym same) ∙ e) n

  -- every procedure is kept
  all_live : (p : ℕ) → p < length k.procedures.procs → is_live live p ≡ true
  all_live p h = exact.complete p (still_live p (neat.reached p h))

  -- every procedure keeps its number
  number_same : (q : ℕ) → q < length k.procedures.procs → number_in live q ≡ q
  number_same q h = first_counted q live (λ i l. all_live i (omega (arith, l, h)))

  -- every procedure stays
  proc_same : (i : ℕ) (is : List Instr) (bs : List Bool) → slice_get k.procedures.procs i ≡ Some is
      → AreReached (straight is) bs → smaller (number_in live) bs is ≡ is
  unfolding instructions
  proc_same i is bs e reached =
      let parts = code_parts k well in
      let sound = proc_at (known_of k) k.procedures.procs 0 i is parts.procs e in
      let at = instructions_at k.procedures.procs i ∙ ap or_none e in
      let there = proc_stands k.procedures.procs i is e in
      let neat_here = subst (λ l. IsNeatProcedure l) at (neat.each i there) in
      let straight_here = straight_stays is (tidy_of is neat_here) in
      let size : length bs ≡ length is = reached.size ∙ ap (λ l. length l) straight_here in
      neat_stays (number_in live) is bs neat_here
      (set_all bs is size (λ j l. reached.complete j (subst (λ t. j < length t) (sym straight_here) l)
      (subst (λ t. Comes t j) (sym straight_here) (neat_here.reached j l))))
      (jumps_of (known_of k) (0 + i) is sound.sound)
      (numbers_kept (known_of k) (number_in live) number_same (0 + i) is sound.sound)
    where
      proc_stands : (ps : List (List Instr)) (i : ℕ) (is : List Instr) → slice_get ps i ≡ Some is → i < length ps
      proc_stands [] i is e = absurd (cc e)
      proc_stands (js ∷ ps) zero is e = omega arith
      proc_stands (js ∷ ps) (suc i) is e = omega (arith, proc_stands ps i is e)

  -- Neat code comes back as it is.
  pub neat_code_stays : smaller_code live flags k ≡ k
  neat_code_stays =
      let parts = code_parts k well in
      let procs = collected_same (number_in live) live flags k.procedures.procs exact.places all_live proc_same in
      let start = number_same k.procedures.start parts.start in
      let react = number_same k.procedures.react parts.react in
      ap (λ ps. record k {
        procedures = record {
          procs = ps;
          start = number_in live k.procedures.start;
          react = number_in live k.procedures.react;
        };
      }) procs
      ∙ ap (λ s. record k {
        procedures = record {
          procs = k.procedures.procs;
          start = s;
          react = number_in live k.procedures.react;
        };
      }) start
      ∙ ap (λ r. record k {
        procedures = record {
          procs = k.procedures.procs;
          start = k.procedures.start;
          react = r;
        };
      }) react
