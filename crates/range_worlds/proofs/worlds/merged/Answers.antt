use Rattle.std.proofs.Common.{refl}
use Rattle.range_worlds.proofs.Leading.{merged_other}
use Rattle.range_worlds.proofs.worlds.merged.Goals as goal

pub returns-in_ok-others : goal.returns-in_ok-others
returns-in_ok-others c = merged_other _ _ _ _ refl c.in_ok-others.ensures
