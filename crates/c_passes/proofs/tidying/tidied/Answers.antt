use Rattle.c_passes.proofs.PassLemmas.{as_trimmed, as_pruned}
use Rattle.c_passes.proofs.tidying.tidied.Goals as goal

pub loop-preserved : goal.loop-preserved
loop-preserved c =
    λ K file are. as_pruned K file c.in_ok-fewer.fewer.items c.in_ok-made.made.items
    (as_trimmed K file c.loop.made.items c.in_ok-fewer.fewer.items (c.loop.invariant K file are) c.in_ok-fewer.ensures)
    c.in_ok-made.ensures
