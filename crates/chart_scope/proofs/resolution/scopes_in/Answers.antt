use Rattle.std.proofs.Common.{List, sym, subst}
use Rattle.active_config.specs.Tree.{IsTree}
use Rattle.chart_tree.specs.Views.{chart_of}
use Rattle.chart_places.specs.Placed.{Placed, placed_tree}
use Rattle.chart_places.proofs.TreeLemmas.{placed_tree_is_tree}
use Rattle.chart_scope.proofs.resolution.scopes_in.Goals as goal

-- the states of a chart text are a tree
pub shape_of-requires-clause-tree : goal.shape_of-requires-clause-tree
shape_of-requires-clause-tree c =
    subst (λ (ps : List Placed). IsTree (placed_tree ps)) (sym c.requires.states)
    (placed_tree_is_tree (chart_of c.args.chart.now).root)
