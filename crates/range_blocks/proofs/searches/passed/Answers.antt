use Rattle.std.proofs.Common.{refl}
use Rattle.range_blocks.proofs.FiringLemmas.{passes_on}
use Rattle.range_blocks.proofs.searches.passed.Goals as goal

pub returns : goal.returns
returns c = passes_on _ _ _ _ _ c.in_ok-left.ensures c.in_ok-stop.ensures refl refl
