-- Names among names.
use Rattle.std.proofs.lemmas.Grind.{common_steps}
use Rattle.statechart_counters.proofs.GatherLemmas.{there-next}

pub ruleset has_steps = (common_steps, there-next)
