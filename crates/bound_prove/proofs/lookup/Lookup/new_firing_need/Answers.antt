use Rattle.bound_prove.proofs.Evaluations.{three_evaluated}
use Rattle.bound_prove.proofs.Pieces.{list_named}
use Rattle.bound_prove.proofs.lookup.Lookup.new_firing_need.Goals as goal

pub returns : goal.returns
returns c =
    let l = c.args.self.now in
    three_evaluated l _ _ _ _ _ _ _ _ _ _ _ _ _ _ _
    (list_named l _ _ _ _ _ c.list.ensures.list c.in_ok-list.ensures) c.in_ok-exits.ensures c.in_ok-entries.ensures
    c.then-rest.ensures c.then.ensures
