-- When the procedures of code are copies of those of other code.
use Rattle.std.specs.Prelude.{◌≡◌, ◌<◌, ℕ, List, length}
use Rattle.code_language.specs.Code.{Code, Procedures, instructions}
use Rattle.code_merging.specs.Merged.{under}
use Rattle.code_shrink.specs.Numbers.{number_by}

-- procedure p of the second ones is a copy of m p, its origin, of the first ones: with their origins for the procedures
-- that it names it has the same instructions
pub record IsPureCopy (m : ℕ → ℕ) (k k' : Procedures) (p : ℕ) : Type 0 where
  pub there : m p < length k.procs
  pub same : under m (instructions k' p) ≡ instructions k (m p)

-- The second code declares what the first one does, and its procedures are copies of those of the first one, by this
-- list of their origins. So are those of a start and of a reaction.
pub record ArePureCopies (k k' : Code) (origins : List ℕ) : Type 0 where
  pub tree : k'.tree ≡ k.tree
  pub names : k'.names ≡ k.names
  pub size : length origins ≡ length k'.procedures.procs
  pub each : (p : ℕ) → p < length origins → IsPureCopy (number_by origins) k.procedures k'.procedures p
  pub start : number_by origins k'.procedures.start ≡ k.procedures.start
  pub react : number_by origins k'.procedures.react ≡ k.procedures.react
