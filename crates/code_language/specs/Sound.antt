-- What the instructions of well-formed code keep, one by one and procedure by procedure.
use Rattle.std.specs.Prelude.{◌≡◌, ◌+◌, ℕ, suc, List, [], ◌∷◌, length, true}
use Rattle.code_language.specs.Instrs.{Instr}
use Rattle.code_language.specs.WellFormed.{Known, instr_known, skips_within, calls_lower}
use Rattle.code_language.specs.WellFormed.{instr_typed, is_ret, instr_keeps}

-- an instruction of procedure p with so many after it: it names what is there, passes over no end, calls lower, its
-- types are right, and it keeps what can be remembered
pub record IsSound (K : Known) (p behind : ℕ) (x : Instr) : Type 0 where
  pub known : instr_known K x ≡ true
  pub within : skips_within behind x ≡ true
  pub lower : calls_lower p x ≡ true
  pub typed : instr_typed K x ≡ true
  pub keeps : instr_keeps K x ≡ true

-- each instruction of a list that stands before so many more
abbrev pub AreSound : Known → ℕ → ℕ → List Instr → Type 0
AreSound K p behind [] = Unit {0}
AreSound K p behind (x ∷ rest) = IsSound K p (length rest + behind) x × AreSound K p behind rest

-- the list isn't empty, and its last instruction returns
abbrev pub EndsInRet : List Instr → Type 0
EndsInRet [] = ⊥
EndsInRet (x ∷ []) = is_ret x ≡ true
EndsInRet (x ∷ (y ∷ rest)) = EndsInRet (y ∷ rest)

-- a whole procedure: each of its instructions is sound, and the last one returns
pub record IsProc (K : Known) (p : ℕ) (is : List Instr) : Type 0 where
  pub sound : AreSound K p 0 is
  pub ends : EndsInRet is

-- each procedure from number p on
abbrev pub AreProcs : Known → ℕ → List (List Instr) → Type 0
AreProcs K p [] = Unit {0}
AreProcs K p (is ∷ rest) = IsProc K p is × AreProcs K (suc p) rest

-- each call of the instructions goes below n
abbrev pub CallsBelow : ℕ → List Instr → Type 0
CallsBelow n [] = Unit {0}
CallsBelow n (x ∷ rest) = (calls_lower n x ≡ true) × CallsBelow n rest
