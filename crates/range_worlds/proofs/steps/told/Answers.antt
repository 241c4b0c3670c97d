use Rattle.range_worlds.proofs.StepLemmas.{is_told}
use Rattle.range_worlds.proofs.steps.told.Goals as goal

pub returns : goal.returns
returns c =
    is_told _ _ _ _ _ _ c.declared-from.ensures c.deref.ensures.value c.in_ok-found.ensures c.in_ok-zero_allowed.ensures
