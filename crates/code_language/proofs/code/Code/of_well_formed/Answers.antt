use Rattle.std.proofs.Common.{◌≡◌, ◌∙◌, ap, sym, subst, arith}
use Rattle.flow_base.specs.Lists.{items_of}
use Rattle.code_language.specs.Code.{code_of, tree_of_states}
use Rattle.code_language.specs.Kept.{KeepsMeasures}
use Rattle.code_language.proofs.FaultLemmas.{states_counted}
use Rattle.code_language.proofs.code.Code.of_well_formed.Goals as goal

pub tree_shape-requires-clause-short : goal.tree_shape-requires-clause-short
tree_shape-requires-clause-short c =
    let count = states_counted (items_of c.args.raw.states) in
    rw c.items.ensures (omega (arith, count, c.requires.table.states))

pub tree_shape-requires-clause-tree : goal.tree_shape-requires-clause-tree
tree_shape-requires-clause-tree c = rw c.items.ensures c.requires.table.tree

pub of-requires : goal.of-requires
of-requires c =
    let k = code_of c.args.raw in
    let most = c.in_ok-measures.measures in
    let same : c.in_ok-shape.shape ≡ k.tree = c.in_ok-shape.ensures ∙ ap tree_of_states c.items.ensures in
    subst (λ t. KeepsMeasures k t most.height most.work) (sym same) c.in_ok-measures.ensures
