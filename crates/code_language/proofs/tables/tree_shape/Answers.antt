use Rattle.code_language.proofs.TableLemmas.{tree_parents}
use Rattle.code_language.proofs.tables.tree_shape.Goals as goal

pub shape_of-requires-clause-parents : goal.shape_of-requires-clause-parents
shape_of-requires-clause-parents c = tree_parents c.args.states.now c.requires.tree

pub unreachable-requires : goal.unreachable-requires
unreachable-requires c = c.shape_of.ensures.not_a_tree (cc) c.requires.tree
