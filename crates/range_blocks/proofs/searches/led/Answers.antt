use Rattle.std.proofs.Common.{refl}
use Rattle.range_blocks.proofs.FiringLemmas.{led_found}
use Rattle.range_blocks.proofs.searches.led.Goals as goal

pub returns : goal.returns
returns c = led_found _ _ _ _ c.in_ok-fires.ensures refl refl refl
