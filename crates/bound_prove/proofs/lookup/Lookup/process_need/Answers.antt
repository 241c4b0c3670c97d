use Rattle.bound_prove.proofs.Pieces.{block_named, list_named}
use Rattle.bound_prove.proofs.Processing.{process_evaluated}
use Rattle.bound_prove.proofs.lookup.Lookup.process_need.Goals as goal

pub returns : goal.returns
returns c =
    let l = c.args.self.now in
    record {
      need =
          process_evaluated l c.args.s _ _ _ _ _ _ _ _ _ _ _ _ _ _ _ _ _ _
          (list_named l _ _ _ _ _ c.list.ensures.list c.in_ok-outer.ensures)
          (block_named l _ _ _ _ _ c.block.ensures.block c.in_ok-during.ensures)
          (list_named l _ _ _ _ _ c.list-2.ensures.list c.in_ok-inner.ensures) c.in_ok-children.ensures
          c.in_ok-leaving.ensures.need c.in_ok-staying.ensures.need c.or-fired.ensures c.or-last.ensures
          c.then-from_inner.ensures c.then-from_during.ensures c.then.ensures;
      marks = c.in_ok-staying.ensures.marks;
      firings = c.in_ok-staying.ensures.firings;
    }
