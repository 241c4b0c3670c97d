use Rattle.range_spans.proofs.SameLemmas.{on_true}
use Rattle.range_worlds.proofs.InsideLemmas.{told, all_within}
use Rattle.range_worlds.proofs.inside.has_all.Goals as goal

pub returns : goal.returns
returns c =
    on_true _ (λ e. all_within _ _ _ _ _ c.deref.ensures.value c.deref-2.ensures.value
    (told _ c.if-not-same.false c.same.ensures) (told _ e c.is_within.ensures))
