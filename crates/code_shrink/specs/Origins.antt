-- Which procedures of code those of smaller code were.
use Rattle.std.specs.Prelude.{◌≡◌, ◌<◌, ℕ, suc, Bool, true, false, List, [], ◌∷◌, length, slice_index}
use Rattle.code_language.specs.Code.{Procedures}
use Rattle.code_shrink.specs.Whole.{AreSmaller}

-- a number before others where its procedure is kept
abbrev pub number_if : Bool → ℕ → List ℕ → List ℕ
number_if true p numbers = p ∷ numbers
number_if false p numbers = numbers

-- the numbers of the procedures that are kept, in ascending order, where the first flag is that of procedure p
abbrev pub kept_from : ℕ → List Bool → List ℕ
kept_from p [] = []
kept_from p (b ∷ live) = number_if b p (kept_from (suc p) live)

-- The second procedures are what is left of the first ones where exactly what is reached is kept, and they had these
-- numbers: those of the kept ones in ascending order, one for each procedure.
pub record HadNumbers (k k' : Procedures) (origins : List ℕ) : Type 0 where
  pub smaller : AreSmaller k k'
  pub kept : origins ≡ kept_from 0 smaller.live
  pub size : length origins ≡ length k'.procs
  pub within : (i : ℕ) → i < length origins → slice_index origins i < length k.procs
