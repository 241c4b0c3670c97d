-- How a run goes on after an instruction, without what the instruction does.
use Rattle.std.specs.Prelude.{◌≡◌, ◌<◌, ℕ, Bool, true, false, List, length, Some, slice_get, slice_index_or}
use Rattle.code_language.specs.Instrs.{Instr, Assign, Emit, Mark, Clear, Keep, Unless, Skip, Call, Visit, Send}
use Rattle.code_language.specs.Instrs.{SendTo, Play, Home, Begin, Pass, Ret}
use Rattle.code_shrink.specs.Neat.{IsAfter, Comes}
use Rattle.code_shrink.specs.declared.places.Way.{Way}
use Rattle.code_shrink.specs.declared.places.Way.TheVariants as ways

-- how a run goes on after an instruction
abbrev pub way_of : Instr → Way
way_of (Assign v x) = ways.On
way_of (Emit e) = ways.On
way_of (Mark s) = ways.On
way_of (Clear s) = ways.On
way_of (Keep s) = ways.On
way_of (Unless k c) = ways.Tests k
way_of (Skip k) = ways.Skips k
way_of (Call p tag) = ways.On
way_of (Visit p tag) = ways.On
way_of (Send e) = ways.On
way_of (SendTo e s p) = ways.On
way_of Play = ways.On
way_of (Home s) = ways.On
way_of Begin = ways.On
way_of Pass = ways.On
way_of (Ret r) = ways.Returns

-- what is marked is reached, place 0 is marked, and what comes after a marked place below i, and is there, is marked
pub record Marking (t : List Instr) (i : ℕ) (bs : List Bool) : Type 0 where
  pub size : length bs ≡ length t
  pub sound : (j : ℕ) → slice_index_or bs j false ≡ true → Comes t j
  pub first : 0 < length t → slice_index_or bs 0 false ≡ true
  pub closed : (j k : ℕ) (x : Instr) → j < i → slice_index_or bs j false ≡ true → slice_get t j ≡ Some x → IsAfter j x k
      → k < length t → slice_index_or bs k false ≡ true
