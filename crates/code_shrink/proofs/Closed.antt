-- Flags that are closed: what comes after a marked place is marked, and what is named there is kept.
use Rattle.std.specs.Prelude.{◌≡◌, ℕ, zero, suc, Bool, true, false, List, [], ◌∷◌, slice_index_or}
use Rattle.code_language.specs.Code.{Procedures}
use Rattle.code_language.specs.Instrs.{Instr, Assign, Emit, Mark, Clear, Keep, Unless, Skip, Call, Visit, Send}
use Rattle.code_language.specs.Instrs.{SendTo, Play, Home, Begin, Pass, Ret}
use Rattle.code_shrink.specs.Follows.{NamesIn}
use Rattle.code_shrink.specs.Smaller.{straight}
use Rattle.code_shrink.specs.Whole.{is_live}

-- ---- flags of one procedure

-- the place k instructions on is marked, or is none
abbrev pub IsMarked : List Bool → ℕ → Type 0
IsMarked bs k = slice_index_or bs k true ≡ true

-- what comes after an instruction is marked; bs are the flags after it
abbrev pub Lands : Instr → List Bool → Type 0
Lands (Assign v x) bs = IsMarked bs 0
Lands (Emit e) bs = IsMarked bs 0
Lands (Mark s) bs = IsMarked bs 0
Lands (Clear s) bs = IsMarked bs 0
Lands (Keep s) bs = IsMarked bs 0
Lands (Unless k c) bs = IsMarked bs 0 × IsMarked bs k
Lands (Skip k) bs = IsMarked bs k
Lands (Call p tag) bs = IsMarked bs 0
Lands (Visit p tag) bs = IsMarked bs 0
Lands (Send e) bs = IsMarked bs 0
Lands (SendTo e s p) bs = IsMarked bs 0
Lands Play bs = IsMarked bs 0
Lands (Home s) bs = IsMarked bs 0
Lands Begin bs = IsMarked bs 0
Lands Pass bs = IsMarked bs 0
Lands (Ret r) bs = Unit {0}

-- as many flags as instructions; what comes after a marked instruction is marked, and what it names is among R
abbrev pub AreClosed : (ℕ → Bool) → List Bool → List Instr → Type 0
AreClosed R [] [] = Unit {0}
AreClosed R [] (x ∷ rest) = ⊥
AreClosed R (b ∷ bs) [] = ⊥
AreClosed R (b ∷ bs) (x ∷ rest) = (b ≡ true → Lands x bs × NamesIn R x) × AreClosed R bs rest

-- ---- flags of all procedures

-- in each kept procedure place 0 is marked, what comes after a marked place is marked, and what is named there is kept
abbrev pub AllClosed : (ℕ → Bool) → List Bool → List (List Bool) → List (List Instr) → Type 0
AllClosed R [] [] [] = Unit {0}
AllClosed R [] [] (is ∷ procs) = ⊥
AllClosed R [] (bs ∷ flags) procs = ⊥
AllClosed R (b ∷ live) [] procs = ⊥
AllClosed R (b ∷ live) (bs ∷ flags) [] = ⊥
AllClosed R (b ∷ live) (bs ∷ flags) (is ∷ procs) =
    (b ≡ true → AreClosed R bs (straight is) × IsMarked bs 0) × AllClosed R live flags procs

-- the flags keep all that is reached
pub record KeepsReached (live : List Bool) (flags : List (List Bool)) (k : Procedures) : Type 0 where
  pub start : is_live live k.start ≡ true
  pub react : is_live live k.react ≡ true
  pub each : AllClosed (is_live live) live flags k.procs

-- the old number of the procedure with a new one
abbrev pub old_of : List Bool → ℕ → ℕ
old_of [] i = i
old_of (true ∷ live) zero = 0
old_of (true ∷ live) (suc i) = suc (old_of live i)
old_of (false ∷ live) i = suc (old_of live i)
