use Rattle.bound_prove.proofs.Evaluations.{three_evaluated}
use Rattle.bound_prove.proofs.Pieces.{block_named, list_named}
use Rattle.bound_prove.proofs.lookup.Lookup.enter_need.Goals as goal

pub returns : goal.returns
returns c =
    let l = c.args.self.now in
    three_evaluated l _ _ _ _ _ _ _ _ _ _ _ _ _ _ _
    (block_named l _ _ _ _ _ c.block.ensures.block c.in_ok-block.ensures)
    (list_named l _ _ _ _ _ c.list.ensures.list c.in_ok-list.ensures) c.in_ok-children.ensures c.then-rest.ensures
    c.then.ensures
