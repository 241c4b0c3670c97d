-- Where every procedure keeps to what is asked of it, and heights and works to their limits, code has no fault.
use Rattle.std.proofs.Common.{◌≡◌, ℕ, suc, ◌+◌, ◌≤◌, Bool, true, false, List, [], ◌∷◌, length}
use Rattle.std.proofs.Common.{Option, Some, None, refl, ap, ◌∙◌, subst, arith}
use Rattle.std.specs.Prelude.{slice_index, nat_lt, not, ◌&&◌}
use Rattle.code_language.specs.Instrs.{On, Bare, OnHome, BareHome, Current, Result as ResultIs, Test, Last, Instr}
use Rattle.code_language.specs.Instrs.{Assign, Emit, Mark, Clear, Keep, Unless, Skip, Call, Visit, Send, SendTo, Play}
use Rattle.code_language.specs.Instrs.{Home, Begin, Pass, Ret}
use Rattle.code_language.specs.declared.fault.CodeKind.{CodeKind}
use Rattle.code_language.specs.declared.fault.CodeKind.TheVariants as kinds
use Rattle.code_language.specs.declared.fault.CodeFault.{CodeFault}
use Rattle.code_language.specs.WellFormed.{Known, with_procs}
use Rattle.code_language.specs.WellFormed.{first_of, unless, cond_keeps}
use Rattle.code_language.specs.WellFormed.{instr_known, skips_within, calls_lower, instr_typed, last_returns}
use Rattle.code_language.specs.WellFormed.{instr_keeps, instr_fault, instrs_fault, proc_fault, procs_fault, first_over}
use Rattle.code_language.specs.Sound.{IsSound, AreSound, EndsInRet, IsProc, AreProcs}

-- a test that holds passes on to what comes later
pub passes : (b : Bool) (kind : CodeKind) (p i : ℕ) (later : Option CodeFault) → b ≡ true
    → first_of (unless b kind p i) later ≡ later
passes true kind p i later h = refl
passes false kind p i later h = cc

-- a test that holds gives no fault
pub holds_none : (b : Bool) (kind : CodeKind) (p i : ℕ) → b ≡ true → unless b kind p i ≡ None
holds_none true kind p i h = refl
holds_none false kind p i h = absurd (cc h)

-- a sound instruction has no fault, where it returns if it is the last one
pub no_instr_fault : (K : Known) (p i : ℕ) (x : Instr) (rest : List Instr) → IsSound K p (length rest) x
    → last_returns x rest ≡ true → instr_fault K p i x rest ≡ None
unfolding instr_fault
no_instr_fault K p i x rest h e =
    passes _ _ p i _ h.known ∙ passes _ _ p i _ h.within ∙ passes _ _ p i _ h.lower ∙ passes _ _ p i _ h.typed
    ∙ passes _ _ p i _ e ∙ holds_none _ _ p i h.keeps

-- nothing more after is the same
sound_alone : (K : Known) (p behind : ℕ) (x : Instr) → IsSound K p (behind + 0) x → IsSound K p behind x
sound_alone K p behind x h = let n : behind + 0 ≡ behind = omega arith in subst (λ k. IsSound K p k x) n h

-- and back
sound_with_none : (K : Known) (p behind : ℕ) (x : Instr) → IsSound K p behind x → IsSound K p (behind + 0) x
sound_with_none K p behind x h = let n : behind ≡ behind + 0 = omega arith in subst (λ k. IsSound K p k x) n h

-- no fault here and none later
none_first : (o later : Option CodeFault) → o ≡ None → first_of o later ≡ later
none_first None later h = refl
none_first (Some fault) later h = absurd (cc h)

-- sound instructions that end in a return have no fault
pub no_instrs_fault : (K : Known) (p i : ℕ) (x : Instr) (rest : List Instr) → AreSound K p 0 (x ∷ rest)
    → EndsInRet (x ∷ rest) → instrs_fault K p i (x ∷ rest) ≡ None
unfolding instrs_fault
no_instrs_fault K p i x [] h e =
    none_first (instr_fault K p i x []) None (no_instr_fault K p i x [] (sound_alone K p (length {A = Instr} []) x h.0) e)
no_instrs_fault K p i x (y ∷ rest) h e =
    none_first (instr_fault K p i x (y ∷ rest)) _ (no_instr_fault K p i x (y ∷ rest) (sound_alone K p (length (y ∷ rest)) x h.0) refl)
    ∙ no_instrs_fault K p (i + 1) y rest h.1 e

-- a sound procedure has no fault
pub no_proc_fault : (K : Known) (p : ℕ) (is : List Instr) → IsProc K p is → proc_fault K p is ≡ None
unfolding proc_fault
no_proc_fault K p [] h = absurd h.ends
no_proc_fault K p (x ∷ is) h = no_instrs_fault K p 0 x is h.sound h.ends

-- sound procedures have none
pub no_procs_fault : (K : Known) (p : ℕ) (ps : List (List Instr)) → AreProcs K p ps → procs_fault K p ps ≡ None
unfolding procs_fault
no_procs_fault K p [] h = refl
no_procs_fault K p (is ∷ ps) h =
    let n : suc p ≡ p + 1 = omega arith in
    ap (λ o. first_of o (procs_fault K (p + 1) ps)) (no_proc_fault K p is h.0)
    ∙ no_procs_fault K (p + 1) ps (subst (λ k. AreProcs K k ps) n h.1)

-- a number within the limit
not_over : (limit n : ℕ) → n ≤ limit → not (nat_lt limit n) ≡ true
not_over limit n h = grind arith

-- numbers of which none is over the limit have no fault
pub none_over : (limit : ℕ) (kind : CodeKind) (p : ℕ) (ns : List ℕ) → ((i : ℕ) → slice_index ns i ≤ limit)
    → first_over limit kind p ns ≡ None
unfolding first_over
none_over limit kind p [] h = refl
none_over limit kind p (n ∷ ns) h =
    passes (not (nat_lt limit n)) kind p 0 _ (not_over limit n (h 0)) ∙ none_over limit kind (p + 1) ns (λ i. h (suc i))

-- ---- what stays where procedures are appended

-- the first of two tests that hold together
pub first_true : (a b : Bool) → (a && b) ≡ true → a ≡ true
first_true true b h = refl
first_true false b h = cc

-- the second of them
pub second_true : (a b : Bool) → (a && b) ≡ true → b ≡ true
second_true true b h = h
second_true false b h = cc

-- it keeps what it kept
keeps_more : (K : Known) (n : ℕ) (x : Instr) → instr_keeps K x ≡ true → instr_keeps (with_procs K n) x ≡ true
unfolding instr_keeps cond_keeps
keeps_more K n (Call p tag) h = h
keeps_more K n (Visit p tag) h = h
keeps_more K n (SendTo e s p) h = h
keeps_more K n (Assign v x) h = h
keeps_more K n (Emit e) h = h
keeps_more K n (Mark s) h = h
keeps_more K n (Clear s) h = h
keeps_more K n (Keep s) h = h
keeps_more K n (Unless k (On s)) h = h
keeps_more K n (Unless k (Bare s)) h = h
keeps_more K n (Unless k OnHome) h = h
keeps_more K n (Unless k BareHome) h = h
keeps_more K n (Unless k (Current e)) h = h
keeps_more K n (Unless k (ResultIs r)) h = h
keeps_more K n (Unless k (Test x)) h = h
keeps_more K n (Unless k (Last s)) h = h
keeps_more K n (Skip k) h = h
keeps_more K n (Send e) h = h
keeps_more K n Play h = h
keeps_more K n (Home s) h = h
keeps_more K n Begin h = h
keeps_more K n Pass h = h
keeps_more K n (Ret r) h = h

-- ---- and the other way round: what has no fault is right

-- where there is no first of two faults there is neither
pub first_none : (o later : Option CodeFault) → first_of o later ≡ None → (o ≡ None) × (later ≡ None)
first_none None later h = (refl, h)
first_none (Some f) later h = absurd (cc h)

-- a test without a fault holds
pub unless_none : (b : Bool) (kind : CodeKind) (p i : ℕ) → unless b kind p i ≡ None → b ≡ true
unless_none true kind p i h = refl
unless_none false kind p i h = absurd (cc h)

-- an instruction without a fault is sound, and returns if it is the last one
pub instr_right : (K : Known) (p i : ℕ) (x : Instr) (rest : List Instr) → instr_fault K p i x rest ≡ None
    → IsSound K p (length rest) x × (last_returns x rest ≡ true)
unfolding instr_fault
instr_right K p i x rest h =
    let keeps = unless (instr_keeps K x) kinds.BadKeep p i in
    let r5 = first_of (unless (last_returns x rest) kinds.NoRet p i) keeps in
    let r4 = first_of (unless (instr_typed K x) kinds.CodeTypes p i) r5 in
    let r3 = first_of (unless (calls_lower p x) kinds.CallNotLower p i) r4 in
    let r2 = first_of (unless (skips_within (length rest) x) kinds.SkipOut p i) r3 in
    let a = first_none (unless (instr_known K x) kinds.BadNumber p i) r2 h in
    let b = first_none (unless (skips_within (length rest) x) kinds.SkipOut p i) r3 a.1 in
    let c = first_none (unless (calls_lower p x) kinds.CallNotLower p i) r4 b.1 in
    let d = first_none (unless (instr_typed K x) kinds.CodeTypes p i) r5 c.1 in
    let e = first_none (unless (last_returns x rest) kinds.NoRet p i) keeps d.1 in (
      record {
        known = unless_none (instr_known K x) kinds.BadNumber p i a.0;
        within = unless_none (skips_within (length rest) x) kinds.SkipOut p i b.0;
        lower = unless_none (calls_lower p x) kinds.CallNotLower p i c.0;
        typed = unless_none (instr_typed K x) kinds.CodeTypes p i d.0;
        keeps = unless_none (instr_keeps K x) kinds.BadKeep p i e.1;
      },
      unless_none (last_returns x rest) kinds.NoRet p i e.0,
    )

-- instructions without a fault are sound, and end in a return
pub instrs_right : (K : Known) (p i : ℕ) (x : Instr) (is : List Instr) → instrs_fault K p i (x ∷ is) ≡ None
    → AreSound K p 0 (x ∷ is) × EndsInRet (x ∷ is)
unfolding instrs_fault
instrs_right K p i x [] h =
    let here = instr_right K p i x [] (first_none (instr_fault K p i x []) (instrs_fault K p (i + 1) []) h).0 in
    ((sound_with_none K p (length {A = Instr} []) x here.0, tt), here.1)
instrs_right K p i x (y ∷ is) h =
    let both = first_none (instr_fault K p i x (y ∷ is)) (instrs_fault K p (i + 1) (y ∷ is)) h in
    let here = instr_right K p i x (y ∷ is) both.0 in
    let rest = instrs_right K p (i + 1) y is both.1 in
    ((sound_with_none K p (length (y ∷ is)) x here.0, rest.0), rest.1)

-- a procedure without a fault is sound
pub proc_right : (K : Known) (p : ℕ) (is : List Instr) → proc_fault K p is ≡ None → IsProc K p is
unfolding proc_fault
proc_right K p [] h = absurd (cc h)
proc_right K p (x ∷ is) h = let r = instrs_right K p 0 x is h in record { sound = r.0; ends = r.1 }

-- so code without these faults is exactly code whose procedures are right
pub procs_right : (K : Known) (p : ℕ) (ps : List (List Instr)) → procs_fault K p ps ≡ None → AreProcs K p ps
unfolding procs_fault
procs_right K p [] h = tt
procs_right K p (is ∷ ps) h =
    let n : p + 1 ≡ suc p = omega arith in
    let r = first_none (proc_fault K p is) (procs_fault K (p + 1) ps) h in
    (proc_right K p is r.0, subst (λ k. AreProcs K k ps) n (procs_right K (p + 1) ps r.1))
