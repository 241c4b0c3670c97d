-- A file without what nobody needs runs as the file.
use Rattle.std.proofs.Common.{ℕ, List, [], ◌∷◌, Option}
use Rattle.actions.specs.declared.expr.Value.{Value}
use Rattle.actions.specs.Runs.{EventWithInputs, Moment}
use Rattle.c_subset.specs.declared.trees.Width.{Width}
use Rattle.c_subset.specs.Trees.{File}
use Rattle.c_subset.specs.Meaning.{CValue, Store}
use Rattle.c_functions.specs.Plans.{Shape}
use Rattle.c_functions.specs.Starts.{RunsOn, Refuses}
use Rattle.c_bare.proofs.Runs.{IsKept, runs-on, refuses-on}
use Rattle.c_pruned.specs.Pruned.{with_pruned}
use Rattle.c_pruned.proofs.Calling.{calls-alike}

module _ (file : File) (K : Shape) (int : Width) where
  pub kept : (f : ℕ) (xs : List CValue) → IsKept int file (with_pruned file) f xs
  kept f xs k s after x e = calls-alike file int k f xs s after x e

  pub runs-as : (s : Store) (given : List (Option Value)) (events : List EventWithInputs) (moments : List Moment)
      → RunsOn K file int s given events moments → RunsOn K (with_pruned file) int s given events moments
  runs-as = runs-on K file (with_pruned file) int (λ f. kept f []) (λ x. kept _ (x ∷ []))

  pub refuses-as : Refuses K file int → Refuses K (with_pruned file) int
  refuses-as = refuses-on K file (with_pruned file) int (λ f. kept f []) (λ x. kept _ (x ∷ []))
