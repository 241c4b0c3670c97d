use Rattle.bound_prove.proofs.Evaluations.{both_evaluated}
use Rattle.bound_prove.proofs.Pieces.{block_named}
use Rattle.bound_prove.proofs.lookup.Lookup.exit_need.Goals as goal

pub returns : goal.returns
returns c =
    both_evaluated c.args.self.now _ _ _ _ _ _ _ _ _ _
    (block_named c.args.self.now _ _ _ _ _ c.block.ensures.block c.in_ok-block.ensures) c.in_ok-children.ensures
    c.then.ensures
