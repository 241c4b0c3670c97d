use Rattle.active_config.specs.Tree.{first_child}
use Rattle.chart_structure.proofs.StateLemmas.{childless_where}
use Rattle.chart_structure.proofs.states.is_childless.Goals as goal

pub returns : goal.returns
unfolding first_child
returns c = childless_where c.args.net.now _ _ _ _ c.shape.ensures.tree c.first_child.ensures.child c.is_none.ensures
