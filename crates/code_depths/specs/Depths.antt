-- Levels of procedures, and code in which sends that find no depth left lead elsewhere.
use Rattle.std.specs.Prelude.{◌≡◌, ◌≤◌, ℕ, suc, nat_le, List, [], ◌∷◌, map, Option, Some, None, unwrap_or}
use Rattle.std.specs.Prelude.{slice_index_or, if◌then◌else◌}
use Rattle.flow_base.specs.declared.bounds.Bounds.{Bounds}
use Rattle.code_language.specs.Code.{Code, Procedures, fetch}
use Rattle.code_language.specs.Instrs.{Instr, Assign, Emit, Mark, Clear, Keep, Unless, Skip, Call, Visit, Send, SendTo}
use Rattle.code_language.specs.Instrs.{Play, Home, Begin, Pass, Ret}
use Rattle.code_language.specs.WellFormed.{IsCode}
use Rattle.code_shrink.specs.RunsAlike.{RunAlike}

-- ---- levels

-- the level of a procedure, 0 where there is no such procedure
abbrev pub level_of : List ℕ → ℕ → ℕ
level_of levels p = slice_index_or levels p 0

-- a note, where there is one, has at most this level
abbrev pub IsNoteWithin : List ℕ → ℕ → Option ℕ → Type 0
IsNoteWithin levels level None = Unit {0}
IsNoteWithin levels level (Some q) = level_of levels q ≤ level

-- what an instruction names, in a procedure of this level: a call and its note have at most this level, and what an
-- event is sent to has at most one more
abbrev pub NamesWithin : List ℕ → ℕ → Instr → Type 0
NamesWithin levels level (Assign v x) = Unit {0}
NamesWithin levels level (Emit e) = Unit {0}
NamesWithin levels level (Mark s) = Unit {0}
NamesWithin levels level (Clear s) = Unit {0}
NamesWithin levels level (Keep s) = Unit {0}
NamesWithin levels level (Unless k c) = Unit {0}
NamesWithin levels level (Skip k) = Unit {0}
NamesWithin levels level (Call q tag) = (level_of levels q ≤ level) × IsNoteWithin levels level tag
NamesWithin levels level (Visit q tag) = (level_of levels q ≤ level) × IsNoteWithin levels level tag
NamesWithin levels level (Send e) = Unit {0}
NamesWithin levels level (SendTo e s q) = level_of levels q ≤ suc level
NamesWithin levels level Play = Unit {0}
NamesWithin levels level (Home s) = Unit {0}
NamesWithin levels level Begin = Unit {0}
NamesWithin levels level Pass = Unit {0}
NamesWithin levels level (Ret r) = Unit {0}

-- levels of procedures, such that a procedure only ever runs at a depth that is at least its level: the start and a
-- reaction have level 0, and at each place what is named is within the level of the procedure
pub record AreLevels (levels : List ℕ) (k : Procedures) : Type 0 where
  pub start : level_of levels k.start ≡ 0
  pub react : level_of levels k.react ≡ 0
  pub named : (p i : ℕ) (x : Instr) → fetch k p i ≡ Some x → NamesWithin levels (level_of levels p) x

-- ---- sends that lead elsewhere

-- where the sends of a procedure of this level lead instead: where no depth is left for them, to procedure q
abbrev pub instead : ℕ → ℕ → ℕ → Option ℕ
instead depth q level = if nat_le depth level then Some q else None

-- an instruction, of which a send to a procedure leads to another one, if there is one
unfoldable pub led : Option ℕ → Instr → Instr
led other (Assign v x) = Assign v x
led other (Emit e) = Emit e
led other (Mark s) = Mark s
led other (Clear s) = Clear s
led other (Keep s) = Keep s
led other (Unless k c) = Unless k c
led other (Skip k) = Skip k
led other (Call p tag) = Call p tag
led other (Visit p tag) = Visit p tag
led other (Send e) = Send e
led other (SendTo e s p) = SendTo e s (unwrap_or other p)
led other Play = Play
led other (Home s) = Home s
led other Begin = Begin
led other Pass = Pass
led other (Ret r) = Ret r

-- the procedures from number p on, each with its sends led to procedure q where no depth is left for them
abbrev pub cut_from : ℕ → List ℕ → ℕ → ℕ → List (List Instr) → List (List Instr)
cut_from depth levels q p [] = []
cut_from depth levels q p (is ∷ procs) =
    map (led (instead depth q (level_of levels p))) is ∷ cut_from depth levels q (suc p) procs

-- all procedures
abbrev pub cut_procedures : ℕ → List ℕ → ℕ → Procedures → Procedures
cut_procedures depth levels q k = record k { procs = cut_from depth levels q 0 k.procs }

-- the code with these procedures; all else is as it was
abbrev pub cut_code : ℕ → List ℕ → ℕ → Code → Code
cut_code depth levels q k = record k { procedures = cut_procedures depth levels q k.procedures }

-- The second code is the first one, or it is the first one but that the sends to procedures that stand in procedures
-- whose level is at least this depth lead to one and the same procedure.
pub data IsCut (depth : ℕ) (k k' : Code) : Type 0 where
  AsItWas : k' ≡ k → IsCut depth k k'
  ByLevels : (levels : List ℕ) (q : ℕ) → AreLevels levels k.procedures → k' ≡ cut_code depth levels q k
      → IsCut depth k k'

-- The second code is well formed, declares what the first one does, and has its runs and no others under these bounds,
-- for all first values of the data and all lists of events.
pub record HasSameRunsUnder (b : Bounds) (k k' : Code) : Type 0 where
  pub well_formed : IsCode k'
  pub tree : k'.tree ≡ k.tree
  pub names : k'.names ≡ k.names
  pub runs : RunAlike b k k'
