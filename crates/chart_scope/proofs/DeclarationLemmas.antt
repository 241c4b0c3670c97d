-- Data as declared.
use Rattle.std.proofs.Common.{List, [], ◌∷◌, ◌++◌}
use Rattle.std.proofs.lemmas.Grind.{common_steps}
use Rattle.actions.specs.declared.names.Var.{Var}
use Rattle.chart_tree.specs.Trees as trees
use Rattle.chart_scope.specs.Resolution.{IsVarOf, AreVarsOf}

-- one more datum is the one that is declared
pub one_more_var : (vs : List trees.Var) (ds : List Var) (v : trees.Var) (d : Var) → AreVarsOf vs ds → IsVarOf v d
    → AreVarsOf (vs ++ v ∷ []) (ds ++ d ∷ [])
one_more_var [] [] v d are is = (is, tt)
one_more_var [] (e ∷ ds) v d are is = absurd are
one_more_var (w ∷ vs) [] v d are is = absurd are
one_more_var (w ∷ vs) (e ∷ ds) v d are is = (are.0, one_more_var vs ds v d are.1 is)

-- data one by one
pub ruleset declared_steps = (common_steps, one_more_var)
