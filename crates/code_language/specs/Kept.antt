-- What a `Code` keeps beside what is written.
use Rattle.std.specs.Prelude.{◌≡◌, ℕ}
use Rattle.active_config.specs.Tree.{Tree}
use Rattle.code_language.specs.Code.{Code}
use Rattle.code_language.specs.Measures.{greatest, heights, works}
use Rattle.code_language.specs.WellFormed.{IsCode}

-- the code is well formed, and these are the tree of its states, and the greatest height and the greatest work of its
-- procedures
pub record KeepsMeasures (k : Code) (tree_kept : Tree) (most_high most_work : ℕ) : Type 0 where
  pub code : IsCode k
  pub tree : tree_kept ≡ k.tree
  pub height : most_high ≡ greatest (heights k.procedures.procs)
  pub work : most_work ≡ greatest (works k.procedures.procs)
