-- How code is made where a procedure stands for each procedure that is equal to it.
use Rattle.std.specs.Prelude.{◌≡◌, ◌<◌, ◌≤◌, ℕ, zero, suc, List, [], ◌∷◌, length, map, slice_index_or}
use Rattle.code_language.specs.Code.{Code, Procedures}
use Rattle.code_language.specs.Instrs.{Instr}
use Rattle.code_shrink.specs.Follows.{renamed}
use Rattle.code_shrink.specs.Numbers.{number_by}

-- instructions, each with the numbers that stand for the procedures that it names
abbrev pub under : (ℕ → ℕ) → List Instr → List Instr
under m is = map (renamed m) is

-- m p stands for procedure p: its number is no higher, and with the numbers that stand for what they name both have the
-- same instructions
pub record StandsFor (m : ℕ → ℕ) (procs : List (List Instr)) (p : ℕ) : Type 0 where
  pub lower : m p ≤ p
  pub same : under m (slice_index_or procs (m p) []) ≡ under m (slice_index_or procs p [])

-- for each procedure one stands that is equal to it
abbrev pub AreEqual : (ℕ → ℕ) → Procedures → Type 0
AreEqual m k = (p : ℕ) → p < length k.procs → StandsFor m k.procs p

-- the procedures, each of which names those that stand for others
abbrev pub merged_procedures : (ℕ → ℕ) → Procedures → Procedures
merged_procedures m k = record { procs = map (under m) k.procs; start = m k.start; react = m k.react }

-- the code that is made: procedures for which another one stands are named nowhere, and keep their numbers
abbrev pub merged_code : (ℕ → ℕ) → Code → Code
merged_code m k = record k { procedures = merged_procedures m k.procedures }

-- the numbers of n procedures in their order, from procedure p on
abbrev pub numbers_from : ℕ → ℕ → List ℕ
numbers_from p zero = []
numbers_from p (suc n) = p ∷ numbers_from (suc p) n

-- the second code is the first one, where each procedure stands for itself, or that in which procedures stand for equal
-- ones, by this table of their numbers
pub data IsMerged (k k' : Code) (numbers : List ℕ) : Type 0 where
  AsItWas : numbers ≡ numbers_from 0 (length k.procedures.procs) → k' ≡ k → IsMerged k k' numbers
  ByTable : AreEqual (number_by numbers) k.procedures → k' ≡ merged_code (number_by numbers) k → IsMerged k k' numbers
