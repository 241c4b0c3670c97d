-- How far the ways of a procedure lead once they lead past skips, and of which instructions the ways are found.
use Rattle.std.specs.Prelude.{◌≡◌, ◌+◌, ◌≤◌, ℕ, suc, List, length, map, true, slice_index}
use Rattle.code_language.specs.Instrs.{Instr}
use Rattle.code_language.specs.Sound.{IsProc}
use Rattle.code_language.specs.WellFormed.{Known, instr_typed}
use Rattle.code_language.specs.declared.limits.TheConstants.{INSTR_LIMIT}
use Rattle.code_shrink.specs.Smaller.{straight}
use Rattle.code_shrink.specs.Ways.{way_of}
use Rattle.code_shrink.specs.declared.places.Way.{Way}
use Rattle.code_shrink.specs.declared.places.Way.TheVariants as ways

-- how many places a way may pass over
abbrev pub over_of : Way → ℕ
over_of ways.On = 0
over_of (ways.Tests k) = k
over_of (ways.Skips k) = k
over_of ways.Returns = 0

-- how far a skip leads from its own place, 0 for any other way
abbrev pub slide_of : Way → ℕ
slide_of ways.On = 0
slide_of (ways.Tests k) = 0
slide_of (ways.Skips k) = suc k
slide_of ways.Returns = 0

-- a way whose jump leads past the skip that it would meet, by the ways after it
abbrev pub led : Way → List Way → Way
led ways.On later = ways.On
led (ways.Tests k) later = ways.Tests (k + slice_index (map slide_of later) k)
led (ways.Skips k) later = ways.Skips (k + slice_index (map slide_of later) k)
led ways.Returns later = ways.Returns

-- the ways of a procedure with constant tests decided and jumps past skips
abbrev pub straight_ways : List Instr → List Way
straight_ways is = map way_of (straight is)

-- the types of the instruction are right, over the states and the declarations of some code
pub record IsTyped (x : Instr) : Type 0 where
  pub known : Known
  pub typed : instr_typed known x ≡ true

-- the instructions are those of a procedure of some well-formed code
pub record IsProcedure (is : List Instr) : Type 0 where
  pub known : Known
  pub number : ℕ
  pub sound : IsProc known number is
  pub short : length is ≤ INSTR_LIMIT
