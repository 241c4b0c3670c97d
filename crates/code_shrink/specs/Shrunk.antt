-- When code is a smaller one of the same meaning.
use Rattle.std.specs.Prelude.{◌≡◌, ◌≤◌, ℕ, Some}
use Rattle.flow_base.specs.declared.bounds.Bounds.{Bounds}
use Rattle.code_language.specs.Code.{Code, Procedures, fetch}
use Rattle.code_language.specs.Instrs.{Instr, Unless, Result, Ret}
use Rattle.code_language.specs.Measures.{greatest, heights, works}
use Rattle.code_language.specs.WellFormed.{IsCode}
use Rattle.code_shrink.specs.Neat.{IsNeat}
use Rattle.code_shrink.specs.RunsAlike.{RunAlike}
use Rattle.code_shrink.specs.Whole.{ComesInOrder}

-- the instruction stands at some place of some procedure
pub record IsThere (k : Procedures) (x : Instr) : Type 0 where
  pub proc : ℕ
  pub place : ℕ
  pub stands : fetch k proc place ≡ Some x

-- each result that the second procedures return is one that the first ones return, and the same of results that are
-- tested
pub record KeepsResults (k k' : Procedures) : Type 0 where
  pub returned : (p i r : ℕ) → fetch k' p i ≡ Some (Ret r) → IsThere k (Ret r)
  pub tested : (p i j r : ℕ) → fetch k' p i ≡ Some (Unless j (Result r)) → (n : ℕ) × IsThere k (Unless n (Result r))

-- The second code is well formed and neat, declares what the first one does and has its runs, for all bounds, all first
-- values of the data and all lists of events. It is no higher and works no more, and its procedures come in order from
-- reached ones that aren't shorter. Its results are results of the first one. Neat code is as it was.
pub record IsShrunk (k k' : Code) : Type 0 where
  pub well_formed : IsCode k'
  pub tree : k'.tree ≡ k.tree
  pub names : k'.names ≡ k.names
  pub neat : IsNeat k'.procedures
  pub runs : (b : Bounds) → RunAlike b k k'
  pub height : greatest (heights k'.procedures.procs) ≤ greatest (heights k.procedures.procs)
  pub work : greatest (works k'.procedures.procs) ≤ greatest (works k.procedures.procs)
  pub order : ComesInOrder k.procedures k'.procedures
  pub results : KeepsResults k.procedures k'.procedures
  pub stays : IsNeat k.procedures → k' ≡ k
