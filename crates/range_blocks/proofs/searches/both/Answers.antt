use Rattle.range_blocks.proofs.FiringLemmas.{first_included, second_included}
use Rattle.range_blocks.proofs.searches.both.Goals as goal

pub returns-clause-first : goal.returns-clause-first
returns-clause-first c =
    first_included _ _ c.args.b _ c.in_ok-fires.ensures c.in_ok-dead.ensures c.in_ok-no.ensures c.in_ok-stop.ensures

pub returns-clause-second : goal.returns-clause-second
returns-clause-second c =
    second_included _ c.args.a _ _ c.in_ok-fires.ensures c.in_ok-dead.ensures c.in_ok-no.ensures c.in_ok-stop.ensures
