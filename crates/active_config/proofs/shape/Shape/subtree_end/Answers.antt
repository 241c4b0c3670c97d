use Rattle.std.proofs.Common.{arith}
use Rattle.active_config.proofs.ShapeLemmas.{tree_is, within_ends, end_is}
use Rattle.active_config.proofs.shape.Shape.subtree_end.Goals as goal

pub index-requires : goal.index-requires
index-requires c = omega (arith, within_ends _ _ _ _ _ _ c.self.view_is c.self.invariant c.args.state c.requires)

pub returns-clause-end : goal.returns-clause-end
returns-clause-end c = end_is _ _ _ _ _ _ c.self.view_is c.self.invariant c.args.state c.requires _ c.index.ensures

pub returns-clause-tree : goal.returns-clause-tree
returns-clause-tree c = tree_is _ _ _ _ _ _ c.self.view_is c.self.invariant
