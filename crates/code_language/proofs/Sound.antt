-- What well-formed code keeps, and what stands at a place of it.
use Rattle.std.proofs.Common.{◌≡◌, ℕ, zero, suc, ◌+◌, ◌<◌, Bool, true, false, List, [], ◌∷◌, length, Option, Some}
use Rattle.std.proofs.Common.{None, refl, sym, ap, ◌∙◌, subst, arith}
use Rattle.std.specs.Prelude.{◌&&◌, nat_lt, slice_get, slice_index_or}
use Rattle.std.proofs.lemmas.Bool.{ltb-true, and_parts}
use Rattle.code_language.specs.declared.fault.CodeFault.{CodeFault}
use Rattle.code_language.specs.declared.fault.CodeKind.{CodeKind}
use Rattle.code_language.specs.declared.fault.CodeKind.TheVariants as kinds
use Rattle.code_language.specs.Code.{Code}
use Rattle.code_language.specs.Instrs.{Instr}
use Rattle.code_language.specs.Sound.{IsSound, AreSound, EndsInRet, IsProc, AreProcs, CallsBelow}
use Rattle.code_language.specs.WellFormed.{Known, first_of, unless, skips_within}
use Rattle.code_language.specs.WellFormed.{last_returns, instr_fault, instrs_fault, proc_fault, procs_fault}
use Rattle.code_language.specs.WellFormed.{known_of, starts_known, later_fault, IsCode}

-- ---- no fault

-- where the first of two faults is none, both are
both_none : (a b : Option CodeFault) → first_of a b ≡ None → (a ≡ None) × (b ≡ None)
both_none None b e = (refl, e)
both_none (Some fault) b e = absurd cc

-- a test without a fault holds
test_holds : (good : Bool) (kind : CodeKind) (p i : ℕ) → unless good kind p i ≡ None → good ≡ true
test_holds true kind p i e = refl
test_holds false kind p i e = absurd cc

-- an instruction without a fault is sound, and returns where it is the last
instr_sound : (K : Known) (p i : ℕ) (x : Instr) (rest : List Instr) → instr_fault K p i x rest ≡ None
    → IsSound K p (length rest + 0) x × (last_returns x rest ≡ true)
unfolding instr_fault
instr_sound K p i x rest e =
    let count : length rest ≡ length rest + 0 = omega arith in
    let known = both_none _ _ e in
    let within = both_none _ _ known.1 in
    let lower = both_none _ _ within.1 in
    let typed = both_none _ _ lower.1 in
    let returns = both_none _ _ typed.1 in (
      record {
        known = test_holds _ kinds.BadNumber p i known.0;
        within = ap (λ (n : ℕ). skips_within n x) (sym count) ∙ test_holds _ kinds.SkipOut p i within.0;
        lower = test_holds _ kinds.CallNotLower p i lower.0;
        typed = test_holds _ kinds.CodeTypes p i typed.0;
        keeps = test_holds _ kinds.BadKeep p i returns.1;
      },
      test_holds _ kinds.NoRet p i returns.0,
    )

-- instructions without a fault are sound
instrs_sound : (K : Known) (p i : ℕ) (is : List Instr) → instrs_fault K p i is ≡ None → AreSound K p 0 is
unfolding instrs_fault
instrs_sound K p i [] e = tt
instrs_sound K p i (x ∷ rest) e =
    let parts = both_none (instr_fault K p i x rest) (instrs_fault K p (i + 1) rest) e in
    ((instr_sound K p i x rest parts.0).0, instrs_sound K p (i + 1) rest parts.1)

-- and the last of them returns
instrs_end : (K : Known) (p i : ℕ) (x : Instr) (rest : List Instr) → instrs_fault K p i (x ∷ rest) ≡ None
    → EndsInRet (x ∷ rest)
unfolding instrs_fault
instrs_end K p i x [] e =
    (instr_sound K p i x [] (both_none (instr_fault K p i x []) (instrs_fault K p (i + 1) []) e).0).1
instrs_end K p i x (y ∷ rest) e =
    instrs_end K p (i + 1) y rest (both_none (instr_fault K p i x (y ∷ rest)) (instrs_fault K p (i + 1) (y ∷ rest)) e).1

-- a procedure without a fault
proc_sound : (K : Known) (p : ℕ) (is : List Instr) → proc_fault K p is ≡ None → IsProc K p is
unfolding proc_fault
proc_sound K p [] e = absurd cc
proc_sound K p (x ∷ rest) e = record { sound = instrs_sound K p 0 (x ∷ rest) e; ends = instrs_end K p 0 x rest e }

-- procedures without a fault
procs_sound : (K : Known) (p : ℕ) (procs : List (List Instr)) → procs_fault K p procs ≡ None → AreProcs K p procs
unfolding procs_fault
procs_sound K p [] e = tt
procs_sound K p (is ∷ rest) e =
    let parts = both_none (proc_fault K p is) (procs_fault K (p + 1) rest) e in
    let n : suc p ≡ p + 1 = omega arith in (
      proc_sound K p is parts.0,
      procs_sound K (suc p) rest (ap (λ (m : ℕ). procs_fault K m rest) n ∙ parts.1),
    )

-- ---- well-formed code

-- the parts that a run relies on
pub record HasParts (k : Code) : Type 0 where
  pub procs : AreProcs (known_of k) 0 k.procedures.procs
  pub start : k.procedures.start < length k.procedures.procs
  pub react : k.procedures.react < length k.procedures.procs

-- the procedures of well-formed code are sound, and those of a start and of a reaction are there
pub code_parts : (k : Code) → IsCode k → HasParts k
unfolding later_fault
code_parts k is =
    let starts = both_none (unless (starts_known k.procedures) kinds.BadNumber 0 0) _ is.sound in
    let procs = both_none (procs_fault (known_of k) 0 k.procedures.procs) _ starts.1 in
    let count = length k.procedures.procs in
    let there = and_parts (nat_lt k.procedures.start count) (nat_lt k.procedures.react count)
    (test_holds (starts_known k.procedures) kinds.BadNumber 0 0 starts.0) in
    record {
      procs = procs_sound (known_of k) 0 k.procedures.procs procs.0;
      start = ltb-true k.procedures.start (length k.procedures.procs) there.0;
      react = ltb-true k.procedures.react (length k.procedures.procs) there.1;
    }

-- ---- procedures and their instructions

-- the instructions of a procedure, by whether it is there
abbrev pub or_none : Option (List Instr) → List Instr
or_none None = []
or_none (Some is) = is

-- they are what stands at its number
pub instructions_at : (procs : List (List Instr)) (p : ℕ) → slice_index_or procs p [] ≡ or_none (slice_get procs p)
instructions_at [] p = refl
instructions_at (is ∷ procs) zero = refl
instructions_at (is ∷ procs) (suc p) = instructions_at procs p

-- a procedure with a number below their count is there
pub proc_there : (procs : List (List Instr)) (p : ℕ) → p < length procs
    → slice_get procs p ≡ Some (slice_index_or procs p [])
proc_there [] p lt = absurd (omega arith)
proc_there (is ∷ procs) zero lt = refl
proc_there (is ∷ procs) (suc p) lt = proc_there procs p (omega arith)

-- the calls of sound instructions go below the number of their procedure
calls_below : (K : Known) (p behind : ℕ) (is : List Instr) → AreSound K p behind is → CallsBelow p is
calls_below K p behind [] h = tt
calls_below K p behind (x ∷ rest) h = (h.0.lower, calls_below K p behind rest h.1)

-- a procedure that stands at a number is one
pub proc_at : (K : Known) (procs : List (List Instr)) (from i : ℕ) (is : List Instr) → AreProcs K from procs
    → slice_get procs i ≡ Some is → IsProc K (from + i) is
proc_at K [] from i is h e = absurd cc
proc_at K (js ∷ procs) from zero is h e =
    let same : js ≡ is = cc in
    let n : from ≡ from + 0 = omega arith in
    subst (λ (l : List Instr). IsProc K (from + 0) l) same (subst (λ (m : ℕ). IsProc K m js) n h.0)
proc_at K (js ∷ procs) from (suc i) is h e =
    let n : suc from + i ≡ from + suc i = omega arith in
    subst (λ (m : ℕ). IsProc K m is) n (proc_at K procs (suc from) i is h.1 e)

-- its calls go below its number
pub calls_at : (K : Known) (procs : List (List Instr)) (i : ℕ) (is : List Instr) → AreProcs K 0 procs
    → slice_get procs i ≡ Some is → CallsBelow i is
calls_at K procs i is h e =
    let n : 0 + i ≡ i = omega arith in
    subst (λ (m : ℕ). CallsBelow m is) n (calls_below K (0 + i) 0 is (proc_at K procs 0 i is h e).sound)
