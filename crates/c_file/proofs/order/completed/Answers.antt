use Rattle.std.proofs.Common.{◌∙◌}
use Rattle.c_file.proofs.OrderLemmas.{none_placed}
use Rattle.c_file.proofs.order.completed.Goals as goal

pub place_all-requires-clause-placed : goal.place_all-requires-clause-placed
place_all-requires-clause-placed c =
    none_placed _ _ _ (c.deref_mut.ensures.value ∙ c.in_ok-placed.ensures.items_if_clones_equal (λ y h. h))
    c.new-order.ensures.items
