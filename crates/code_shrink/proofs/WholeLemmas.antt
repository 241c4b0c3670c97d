-- The smaller procedures, one after the other, and the smaller code as a whole.
use Rattle.std.proofs.Common.{◌≡◌, ◌≤◌, ◌<◌, ℕ, zero, suc, ◌+◌, Bool, true, false, List, [], ◌∷◌, ◌++◌, length, map}
use Rattle.std.proofs.Common.{drop}
use Rattle.std.proofs.Common.{Option, Some, None, refl, sym, ap, ◌∙◌, subst, arith, get_or}
use Rattle.std.specs.Prelude.{nat_lt}
use Rattle.std.specs.List.{list_any}
use Rattle.std.proofs.lemmas.Bool.{ltb-false}
use Rattle.std.proofs.lemmas.List.{append_assoc, append-nil, drop-map}
use Rattle.code_language.specs.Code.{Code, Procedures}
use Rattle.code_language.specs.Instrs.{Instr, Assign, Emit, Mark, Clear, Keep, Unless, Skip, Call, Visit, Send}
use Rattle.code_language.specs.Instrs.{SendTo, Play, Home, Begin, Pass, Ret}
use Rattle.code_language.specs.WellFormed.{known_of, IsCode}
use Rattle.code_language.specs.declared.limits.TheConstants.{PROC_LIMIT, INSTR_LIMIT}
use Rattle.code_language.proofs.ListLemmas.{or_false, drop_past}
use Rattle.code_language.proofs.Sound.{code_parts}
use Rattle.code_shrink.specs.Follows.{renamed, note_by}
use Rattle.code_shrink.specs.Numbers.{number_by}
use Rattle.code_shrink.specs.Shrunk.{IsShrunk}
use Rattle.code_shrink.specs.Smaller.{straight, recounted, put_if, squeezed, keeps, smaller}
use Rattle.code_shrink.specs.Whole.{keep_if, is_live, number_in, collected, smaller_code, AllReached, IsExact}
use Rattle.code_shrink.specs.Whole.{smaller_procedures, AreSmaller}
use Rattle.code_shrink.specs.Ways.{way_of}
use Rattle.code_shrink.specs.declared.places.Way.{Way}
use Rattle.code_shrink.proofs.Collected.{smaller_has_copy}
use Rattle.code_shrink.proofs.Endings.{copy_alike}
use Rattle.code_shrink.proofs.InOrder.{smaller_in_order}
use Rattle.code_shrink.proofs.ResultLemmas.{results_stay}
use Rattle.code_shrink.proofs.NeatCode.{smaller_code_is_neat}
use Rattle.code_shrink.proofs.Orders.{heights_less, works_less}
use Rattle.code_shrink.proofs.SameCode.{neat_code_stays}
use Rattle.code_shrink.proofs.WholeCode.{exact_keeps, smaller_is_code}

-- ---- the same numbers

module _ (m n : ℕ → ℕ) (same : (p : ℕ) → m p ≡ n p) where
  -- a note gets the same number
  note_same : (tag : Option ℕ) → note_by m tag ≡ note_by n tag
  note_same None = refl
  note_same (Some p) = ap Some (same p)

  -- an instruction gets the same numbers
  recounted_same : (x : Instr) (bs : List Bool) → recounted m x bs ≡ recounted n x bs
  unfolding renamed
  recounted_same (Assign v x) bs = refl
  recounted_same (Emit e) bs = refl
  recounted_same (Mark s) bs = refl
  recounted_same (Clear s) bs = refl
  recounted_same (Keep s) bs = refl
  recounted_same (Unless k c) bs = refl
  recounted_same (Skip k) bs = refl
  recounted_same (Call p tag) bs = ap (λ q. Call q (note_by m tag)) (same p) ∙ ap (Call (n p)) (note_same tag)
  recounted_same (Visit p tag) bs = ap (λ q. Visit q (note_by m tag)) (same p) ∙ ap (Visit (n p)) (note_same tag)
  recounted_same (Send e) bs = refl
  recounted_same (SendTo e s p) bs = ap (SendTo e s) (same p)
  recounted_same Play bs = refl
  recounted_same (Home s) bs = refl
  recounted_same Begin bs = refl
  recounted_same Pass bs = refl
  recounted_same (Ret r) bs = refl

  -- a procedure is made the same
  squeezed_same : (bs : List Bool) (is : List Instr) → squeezed m bs is ≡ squeezed n bs is
  squeezed_same [] is = refl
  squeezed_same (b ∷ bs) [] = refl
  squeezed_same (b ∷ bs) (x ∷ is) =
      ap (λ y. put_if b y (squeezed m bs is)) (recounted_same x bs)
      ∙ ap (put_if b (recounted n x bs)) (squeezed_same bs is)

  -- all procedures are made the same
  pub collected_same : (live : List Bool) (flags : List (List Bool)) (procs : List (List Instr))
      → collected m live flags procs ≡ collected n live flags procs
  collected_same [] flags procs = refl
  collected_same (b ∷ live) [] procs = refl
  collected_same (b ∷ live) (bs ∷ flags) [] = refl
  collected_same (b ∷ live) (bs ∷ flags) (is ∷ procs) =
      ap (λ y. keep_if b y (collected m live flags procs)) (squeezed_same (keeps bs (straight is)) (straight is))
      ∙ ap (keep_if b (smaller n bs is)) (collected_same live flags procs)

-- ---- one procedure after the other

-- as many of each as procedures
pub reached_sizes : (live : List Bool) (flags : List (List Bool)) (procs : List (List Instr))
    → AllReached live flags procs
    → (length live ≡ length procs) × (length flags ≡ length procs)
reached_sizes [] [] [] h = (refl, refl)
reached_sizes [] [] (is ∷ procs) h = absurd h
reached_sizes [] (bs ∷ flags) procs h = absurd h
reached_sizes (b ∷ live) [] procs h = absurd h
reached_sizes (b ∷ live) (bs ∷ flags) [] h = absurd h
reached_sizes (b ∷ live) (bs ∷ flags) (is ∷ procs) h =
    let rest = reached_sizes live flags procs h.1 in (ap suc rest.0, ap suc rest.1)

-- the flags of a reached procedure are as many as its instructions
pub reached_at : (live : List Bool) (flags : List (List Bool)) (procs : List (List Instr)) (i : ℕ) (bs : List Bool)
    (is : List Instr) → AllReached live flags procs → get_or live i false ≡ true → drop i flags
    ≡ bs ∷ drop (i + 1) flags
    → drop i procs ≡ is ∷ drop (i + 1) procs → length bs ≡ length (straight is)
reached_at [] [] [] i bs is h l f p = absurd (cc l)
reached_at [] [] (js ∷ procs) i bs is h l f p = absurd h
reached_at [] (cs ∷ flags) procs i bs is h l f p = absurd h
reached_at (b ∷ live) [] procs i bs is h l f p = absurd h
reached_at (b ∷ live) (cs ∷ flags) [] i bs is h l f p = absurd h
reached_at (b ∷ live) (cs ∷ flags) (js ∷ procs) zero bs is h l f p =
    let same : cs ≡ bs = cc f in let also : js ≡ is = cc p in
    ap length (sym same) ∙ (h.0 l).size ∙ ap (λ (ks : List Instr). length (straight ks)) also
reached_at (b ∷ live) (cs ∷ flags) (js ∷ procs) (suc i) bs is h l f p =
    let e : suc i + 1 ≡ suc (i + 1) = omega arith in
    reached_at live flags procs i bs is h.1 l (rw e at f) (rw e at p)

-- a reached procedure has that many flags and they are there
pub live_within : (live : List Bool) (flags : List (List Bool)) (procs : List (List Instr)) (i : ℕ)
    → AllReached live flags procs → i < length procs → (i < length live) × (i < length flags)
live_within live flags procs i h lt =
    let sizes = reached_sizes live flags procs h in let a = sizes.0 in let b = sizes.1 in
    (omega (arith, a, lt), omega (arith, b, lt))

-- the ways of a procedure
pub ways_at : (procs : List (List Instr)) (i : ℕ) (is : List Instr) (all : List (List Way)) (ways : List Way)
    → all ≡ map (λ (is : List Instr). map way_of (straight is)) procs → drop i procs ≡ is ∷ drop (i + 1) procs
    → drop i all ≡ ways ∷ drop (i + 1) all → ways ≡ map way_of (straight is)
ways_at procs i is all ways e p a =
    let g = λ (is : List Instr). map way_of (straight is) in
    let same : ways ∷ drop (i + 1) all ≡ g is ∷ map g (drop (i + 1) procs) =
    sym a ∙ ap (drop i) e ∙ drop-map g i procs ∙ ap (map g) p in
    cc same

-- no procedure is too long
pub short_at : (procs : List (List Instr)) (i : ℕ) (is : List Instr)
    → list_any (λ (js : List Instr). nat_lt INSTR_LIMIT (length js)) procs ≡ false
    → drop i procs ≡ is ∷ drop (i + 1) procs
    → nat_lt INSTR_LIMIT (length is) ≡ false
short_at [] zero is h p = absurd (cc p)
short_at [] (suc i) is h p = absurd (cc p)
short_at (js ∷ procs) zero is h p =
    let same : js ≡ is = cc p in
    ap (λ (ks : List Instr). nat_lt INSTR_LIMIT (length ks)) (sym same)
    ∙ (or_false (nat_lt INSTR_LIMIT (length js)) _ h).0
short_at (js ∷ procs) (suc i) is h p =
    let e : suc i + 1 ≡ suc (i + 1) = omega arith in
    short_at procs i is (or_false (nat_lt INSTR_LIMIT (length js)) _ h).1 (rw e at p)

-- what is made, with what is still to be made, is all
abbrev pub MadeTo : (ℕ → ℕ) → List Bool → List (List Bool) → List (List Instr) → ℕ → List (List Instr) → Type 0
MadeTo m live flags procs i made =
    made ++ collected m (drop i live) (drop i flags) (drop i procs) ≡ collected m live flags procs

module _ (m : ℕ → ℕ) (live : List Bool) (flags : List (List Bool)) (procs : List (List Instr)) (i : ℕ) (b : Bool)
    (bs : List Bool) (is : List Instr) (made : List (List Instr)) (l : drop i live ≡ b ∷ drop (i + 1) live)
    (f : drop i flags ≡ bs ∷ drop (i + 1) flags) (p : drop i procs ≡ is ∷ drop (i + 1) procs)
    (h : made ++ collected m (drop i live) (drop i flags) (drop i procs) ≡ collected m live flags procs) where
  -- what is still to be made
  to_make : collected m (drop i live) (drop i flags) (drop i procs)
      ≡ keep_if b (smaller m bs is) (collected m (drop (i + 1) live) (drop (i + 1) flags) (drop (i + 1) procs))
  to_make =
      ap (λ l. collected m l (drop i flags) (drop i procs)) l
      ∙ ap (λ f. collected m (b ∷ drop (i + 1) live) f (drop i procs)) f
      ∙ ap (collected m (b ∷ drop (i + 1) live) (bs ∷ drop (i + 1) flags)) p

  -- one more is made
  pub one_made : b ≡ true → (made ++ smaller m bs is ∷ [])
      ++ collected m (drop (i + 1) live) (drop (i + 1) flags) (drop (i + 1) procs) ≡ collected m live flags procs
  one_made t =
      append_assoc made (smaller m bs is ∷ [])
      (collected m (drop (i + 1) live) (drop (i + 1) flags) (drop (i + 1) procs))
      ∙ ap (λ c. made ++ keep_if c (smaller m bs is)
      (collected m (drop (i + 1) live) (drop (i + 1) flags) (drop (i + 1) procs))) (sym t)
      ∙ sym (ap (λ r. made ++ r) to_make) ∙ h

  -- one is left out
  pub one_left : b ≡ false
      → made ++ collected m (drop (i + 1) live) (drop (i + 1) flags) (drop (i + 1) procs) ≡ collected m live flags procs
  one_left t =
      ap (λ c. made ++ keep_if c (smaller m bs is)
      (collected m (drop (i + 1) live) (drop (i + 1) flags) (drop (i + 1) procs))) (sym t)
      ∙ sym (ap (λ r. made ++ r) to_make) ∙ h

-- all are made
pub all_made : (m : ℕ → ℕ) (live : List Bool) (flags : List (List Bool)) (procs : List (List Instr)) (i : ℕ)
    (made : List (List Instr)) → MadeTo m live flags procs i made → length live ≤ i
    → made ≡ collected m live flags procs
all_made m live flags procs i made h le =
    sym (append-nil made)
    ∙ ap (λ l. made ++ collected m l (drop i flags) (drop i procs)) (sym (drop_past live i le)) ∙ h

-- ---- the whole code

-- what is left of well-formed code where exactly what is reached is kept is smaller code of the same meaning
pub is_shrunk : (k : Code) (live : List Bool) (flags : List (List Bool)) → IsCode k → IsExact live flags k.procedures
    → IsShrunk k (smaller_code live flags k)
is_shrunk k live flags well exact =
    let kept = exact_keeps live flags k.procedures exact in
    let copy = smaller_has_copy live flags k kept in
    record {
      well_formed = smaller_is_code live flags k well exact;
      tree = refl;
      names = refl;
      neat = smaller_code_is_neat live flags k.procedures exact;
      runs = copy_alike k (smaller_code live flags k) (is_live live) (number_in live) copy;
      height = heights_less (known_of k) live flags k.procedures.procs (code_parts k well).procs kept.each;
      work = works_less (known_of k) live flags k.procedures.procs (code_parts k well).procs kept.each;
      order = smaller_in_order live flags k.procedures exact;
      results = results_stay live flags k.procedures exact;
      stays = neat_code_stays live flags k well exact;
    }

-- so is code that declares the same and has such procedures
pub made_shrunk : (k made : Code) (ps : Procedures) → IsCode k → made ≡ record k { procedures = ps }
    → AreSmaller k.procedures ps → IsShrunk k made
made_shrunk k made ps well is are =
    subst (IsShrunk k) (sym (is ∙ ap (λ (all : Procedures). record k { procedures = all }) are.made))
    (is_shrunk k are.live are.flags well are.exact)

-- there are few enough procedures, and none is too long
pub few_and_short : (k : Code) → IsCode k → (length k.procedures.procs ≤ PROC_LIMIT)
    × (list_any (λ (is : List Instr). nat_lt INSTR_LIMIT (length is)) k.procedures.procs ≡ false)
few_and_short k well =
    let parts = or_false (nat_lt PROC_LIMIT (length k.procedures.procs)) _ well.few in
    (ltb-false PROC_LIMIT (length k.procedures.procs) parts.0, parts.1)

-- procedures with those of a start and of a reaction
abbrev procedures_with : List (List Instr) → ℕ → ℕ → Procedures
procedures_with ps p q = record { procs = ps; start = p; react = q }

-- the procedures are made exactly of what is kept
pub are_made : (live : List Bool) (flags : List (List Bool)) (k : Procedures) (numbers : List ℕ)
    (procs : List (List Instr)) (start react : ℕ) → ((p : ℕ) → number_by numbers p ≡ number_in live p)
    → procs ≡ collected (number_by numbers) live flags k.procs → start ≡ number_by numbers k.start
    → react ≡ number_by numbers k.react
    → record { procs = procs; start = start; react = react } ≡ smaller_procedures live flags k
are_made live flags k numbers procs start react same made first second =
    let all : procs ≡ collected (number_in live) live flags k.procs =
    made ∙ collected_same (number_by numbers) (number_in live) same live flags k.procs in
    ap (λ (ps : List (List Instr)). procedures_with ps start react) all
    ∙ ap (λ (p : ℕ). procedures_with (collected (number_in live) live flags k.procs) p react) (first ∙ same k.start)
    ∙ ap (procedures_with (collected (number_in live) live flags k.procs) (number_in live k.start))
    (second ∙ same k.react)
