use Rattle.range_worlds.proofs.StepLemmas.{number_taken}
use Rattle.range_worlds.proofs.steps.numbered.Goals as goal

pub returns : goal.returns
returns c =
    number_taken _ _ _ _ _ _ _ _ _ _ _ _ c.declared-from.ensures c.in_ok-same.ensures.0 c.in_ok-same.ensures.1
    c.in_ok-kept.ensures c.in_ok-overflow_allowed.ensures c.in_ok-next.ensures c.in_ok-all.ensures
