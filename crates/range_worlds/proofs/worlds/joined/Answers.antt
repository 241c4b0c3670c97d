use Rattle.std.proofs.Common.{refl}
use Rattle.range_worlds.proofs.Leading.{joins}
use Rattle.range_worlds.proofs.worlds.joined.Goals as goal

pub returns : goal.returns
returns c = joins _ _ _ _ _ c.requires refl c.deref.ensures.value c.in_ok-join.ensures.data
