-- When a procedure does what another one does: on every way it meets the same instructions, jumps and constant tests
-- apart, with other numbers for procedures.
use Rattle.std.specs.Prelude.{◌≡◌, ℕ, List, [], ◌∷◌, drop, Option, Some, None, Ok, Bool, true, false}
use Rattle.actions.specs.Exprs.{Expr}
use Rattle.actions.specs.World.{World}
use Rattle.actions.specs.Changes.{truth_of}
use Rattle.code_language.specs.Code.{Code, Procedures, instructions}
use Rattle.code_language.specs.Instrs.{Cond, Test, Instr, Assign, Emit, Mark, Clear}
use Rattle.code_language.specs.Instrs.{Keep, Unless, Skip, Call, Visit, Send}
use Rattle.code_language.specs.Instrs.{SendTo, Play, Home, Begin, Pass, Ret}

-- ---- other numbers for procedures

-- a note, where there is one, by its new number
abbrev pub note_by : (ℕ → ℕ) → Option ℕ → Option ℕ
note_by m None = None
note_by m (Some p) = Some (m p)

-- an instruction with the new numbers of the procedures that it names
unfoldable pub renamed : (ℕ → ℕ) → Instr → Instr
renamed m (Assign v x) = Assign v x
renamed m (Emit e) = Emit e
renamed m (Mark s) = Mark s
renamed m (Clear s) = Clear s
renamed m (Keep s) = Keep s
renamed m (Unless k c) = Unless k c
renamed m (Skip k) = Skip k
renamed m (Call p tag) = Call (m p) (note_by m tag)
renamed m (Visit p tag) = Visit (m p) (note_by m tag)
renamed m (Send e) = Send e
renamed m (SendTo e s p) = SendTo e s (m p)
renamed m Play = Play
renamed m (Home s) = Home s
renamed m Begin = Begin
renamed m Pass = Pass
renamed m (Ret r) = Ret r

-- a note, where there is one, is among these procedures
abbrev pub NoteIn : (ℕ → Bool) → Option ℕ → Type 0
NoteIn R None = Unit {0}
NoteIn R (Some p) = R p ≡ true

-- the procedures that an instruction names are among these
unfoldable pub NamesIn : (ℕ → Bool) → Instr → Type 0
NamesIn R (Assign v x) = Unit {0}
NamesIn R (Emit e) = Unit {0}
NamesIn R (Mark s) = Unit {0}
NamesIn R (Clear s) = Unit {0}
NamesIn R (Keep s) = Unit {0}
NamesIn R (Unless k c) = Unit {0}
NamesIn R (Skip k) = Unit {0}
NamesIn R (Call p tag) = (R p ≡ true) × NoteIn R tag
NamesIn R (Visit p tag) = (R p ≡ true) × NoteIn R tag
NamesIn R (Send e) = Unit {0}
NamesIn R (SendTo e s p) = R p ≡ true
NamesIn R Play = Unit {0}
NamesIn R (Home s) = Unit {0}
NamesIn R Begin = Unit {0}
NamesIn R Pass = Unit {0}
NamesIn R (Ret r) = Unit {0}

-- ---- what goes on at the next place alone

-- an instruction that neither jumps nor ends its procedure whatever the last result is
unfoldable pub goes_on : Instr → Bool
goes_on (Assign v x) = true
goes_on (Emit e) = true
goes_on (Mark s) = true
goes_on (Clear s) = true
goes_on (Keep s) = true
goes_on (Unless k c) = false
goes_on (Skip k) = false
goes_on (Call p tag) = true
goes_on (Visit p tag) = true
goes_on (Send e) = true
goes_on (SendTo e s p) = true
goes_on Play = true
goes_on (Home s) = true
goes_on Begin = true
goes_on Pass = true
goes_on (Ret r) = false

-- ---- jumps

-- in every world the expression has this truth
abbrev pub IsAlways : Expr → Bool → Type 0
IsAlways e b = (w : World) → truth_of e w ≡ Ok b

-- from the first of these instructions the run comes to the others, and nothing but the place changes
pub data Slides : List Instr → List Instr → Type 0 where
  Skips : (k : ℕ) (rest : List Instr) → Slides (Skip k ∷ rest) (drop k rest)
  Holds : (k : ℕ) (e : Expr) (rest : List Instr) → IsAlways e true → Slides (Unless k (Test e) ∷ rest) rest
  Fails : (k : ℕ) (e : Expr) (rest : List Instr) → IsAlways e false → Slides (Unless k (Test e) ∷ rest) (drop k rest)

-- ---- one procedure and its copy

-- The second instructions do what the first ones do: the first ones may jump where the second ones don't.
pub data Follows (R : ℕ → Bool) (m : ℕ → ℕ) : List Instr → List Instr → Type 0 where
  Nothing : Follows R m [] []
  Goes : (x : Instr) (rest rest' : List Instr) → goes_on x ≡ true → NamesIn R x → Follows R m rest rest'
      → Follows R m (x ∷ rest) (renamed m x ∷ rest')
  Returns : (r : ℕ) (rest rest' : List Instr) → Follows R m (Ret r ∷ rest) (Ret r ∷ rest')
  Tests : (k k' : ℕ) (c : Cond) (rest rest' : List Instr) → Follows R m rest rest'
      → Follows R m (drop k rest) (drop k' rest') → Follows R m (Unless k c ∷ rest) (Unless k' c ∷ rest')
  Passes : (xs after ys : List Instr) → Slides xs after → Follows R m after ys → Follows R m xs ys
  Jumps : (xs after ys after' : List Instr) → Slides xs after → Slides ys after' → Follows R m after after'
      → Follows R m xs ys

-- ---- code and its copy

-- the procedures of which R holds, under the numbers m, do in k' what they do in k
pub record AreCopied (R : ℕ → Bool) (m : ℕ → ℕ) (k k' : Procedures) : Type 0 where
  pub start : R k.start ≡ true
  pub start_at : k'.start ≡ m k.start
  pub react : R k.react ≡ true
  pub react_at : k'.react ≡ m k.react
  pub each : (p : ℕ) → R p ≡ true → Follows R m (instructions k p) (instructions k' (m p))

-- k' has the states and the declarations of k, and copies of its procedures
pub record HasCopy (R : ℕ → Bool) (m : ℕ → ℕ) (k k' : Code) : Type 0 where
  pub tree : k'.tree ≡ k.tree
  pub names : k'.names ≡ k.names
  pub procedures : AreCopied R m k.procedures k'.procedures
