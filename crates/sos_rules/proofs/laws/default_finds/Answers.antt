use Rattle.actions.specs.World.{Bare}
use Rattle.sos_rules.proofs.Defaults.{defaults_find}
use Rattle.sos_rules.proofs.laws.default_finds.Goals as goal

pub returns : goal.returns
returns x c b n s now w v lt or = defaults_find c v b n s lt or (Bare s) now w
