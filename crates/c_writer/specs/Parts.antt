-- Which part of a procedure is written.
use Rattle.std.specs.Prelude.{◌≡◌, ◌≤◌, ◌<◌, ◌+◌, ◌-◌, ◌++◌, ℕ, List, drop, length, Some, Bool, true}
use Rattle.std.specs.Prelude.{slice_get, if◌then◌else◌, ◌∷◌, false, ◌||◌}
use Rattle.code_language.specs.Instrs.{Instr}
use Rattle.code_language.specs.Instrs as i
use Rattle.code_language.specs.declared.limits.TheConstants.{INSTR_LIMIT}
use Rattle.c_subset.specs.declared.trees.Line.{Line}
use Rattle.c_subset.specs.Lines.{Else, else_lines, lines_in, lines_of}
use Rattle.c_functions.specs.Statements.{Block}
use Rattle.c_functions.specs.Writer.{stays_within, join_of, write}
use Rattle.c_functions.specs.Plans.{Shape, plan_c, plays}
use Rattle.c_writer.specs.Fine.{IsFine}
use Rattle.c_writer.specs.declared.parts.Next.{Next}

-- each instruction is fine, and there are not too many
pub record CanBeWritten (K : Shape) (xs : List Instr) : Type 0 where
  pub each : (i : ℕ) (x : Instr) → slice_get xs i ≡ Some x → IsFine K x
  pub short : length xs ≤ INSTR_LIMIT

-- the plan of the instructions from a place on and before another one
unfoldable pub part : Shape → ℕ → List Instr → ℕ → ℕ → Block
part K react xs from to = write K.tree K.numbers react (to - from) (to - from) (drop from xs)

-- none of the instructions from a place on and before another one jumps past the latter
abbrev pub StaysWithin : List Instr → ℕ → ℕ → Type 0
StaysWithin xs from to = stays_within (to - from) (drop from xs) ≡ true

-- where the two parts of an `unless` over k instructions end, of which the first one begins at a place: where they
-- come together, or at the end of all where a jump of them leads further
abbrev pub fork_end : List Instr → ℕ → ℕ → ℕ → ℕ
fork_end xs rest k to =
    if stays_within (join_of k (drop rest xs)) (drop rest xs) then rest + join_of k (drop rest xs) else to

-- whether an instruction plays
abbrev pub is_play : Instr → Bool
is_play (i.Assign v x) = false
is_play (i.Emit e) = false
is_play (i.Mark s) = false
is_play (i.Clear s) = false
is_play (i.Keep s) = false
is_play (i.Unless k x) = false
is_play (i.Skip j) = false
is_play (i.Call p tag) = false
is_play (i.Visit p tag) = false
is_play (i.Send e) = false
is_play (i.SendTo e s p) = false
is_play i.Play = true
is_play (i.Home s) = false
is_play i.Begin = false
is_play i.Pass = false
is_play (i.Ret r) = false

-- what was appended are the lines of a plan
abbrev pub WritesPlan : Shape → List Line → List Line → Block → Type 0
WritesPlan K old new a = lines_in new ≡ lines_in old ++ lines_of (plan_c K a)

-- there is a line of the plan
abbrev pub HasLines : Shape → Block → Type 0
HasLines K a = else_lines (lines_of (plan_c K a)) ≡ Else ∷ lines_of (plan_c K a)

-- some of the instructions from a place on were written, what is left is written from the next place on, and it is told
-- whether what was written plays
pub record IsNext (K : Shape) (react : ℕ) (xs : List Instr) (at to : ℕ) (old new : List Line) (next : Next)
    : Type 0 where
  pub after : at < next.place
  pub within : next.place ≤ to
  pub stays : StaysWithin xs next.place to
  pub lines : lines_in new ++ lines_of (plan_c K (part K react xs next.place to))
      ≡ lines_in old ++ lines_of (plan_c K (part K react xs at to))
  pub plays_is : plays (part K react xs at to) ≡ (next.plays || plays (part K react xs next.place to))
