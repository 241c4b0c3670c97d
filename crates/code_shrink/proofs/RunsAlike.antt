-- Codes that run alike.
use Rattle.std.proofs.Common.{◌≡◌, List, sym, subst}
use Rattle.std.specs.Prelude.{◌↔◌}
use Rattle.flow_base.specs.declared.bounds.Bounds.{Bounds}
use Rattle.actions.specs.Runs.{Moment, EventWithInputs}
use Rattle.code_language.specs.Code.{Code}
use Rattle.code_language.specs.Reactions.{CodeRun}
use Rattle.code_shrink.specs.RunsAlike.{with_names, RunAlike}

-- code runs as it does itself
pub alike_itself : (b : Bounds) (k : Code) → RunAlike b k k
alike_itself b k names events moments = (λ run. run, λ run. run)

-- one pass after the other
pub alike_both : (b : Bounds) (k k' k'' : Code) → RunAlike b k k' → RunAlike b k' k'' → RunAlike b k k''
alike_both b k k' k'' h g names events moments = (
  λ run. (g names events moments).0 ((h names events moments).0 run),
  λ run. (h names events moments).1 ((g names events moments).1 run),
)

-- codes that run alike and declare the same have the same runs
pub alike_runs : (b : Bounds) (k k' : Code) → k'.names ≡ k.names → RunAlike b k k'
    → (events : List EventWithInputs) (moments : List Moment)
    → CodeRun k b events moments ↔ CodeRun k' b events moments
alike_runs b k k' same alike events moments =
    subst (λ names. CodeRun k b events moments ↔ CodeRun (with_names names k') b events moments) (sym same)
    (alike k.names events moments)
