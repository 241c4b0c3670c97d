use Rattle.range_worlds.proofs.StepLemmas.{is_narrowed}
use Rattle.range_worlds.proofs.steps.narrowed.Goals as goal

pub returns : goal.returns
returns c =
    is_narrowed _ _ _ _ _ _ _ _ c.declared-from.ensures c.deref.ensures.value c.in_ok-spans.ensures.same
    c.in_ok-config.ensures.same
    c.in_ok-narrow.ensures.data
