use Rattle.std.specs.Cmp.{booleans_Decides}
use Rattle.std.proofs.lemmas.Slice.Eq.{slice_eq-Decides}
use Rattle.range_spans.proofs.SameLemmas.{on_true}
use Rattle.range_spans.proofs.config.same_flags.Goals as goal

pub returns : goal.returns
returns c = on_true _ (λ e. (slice_eq-Decides booleans_Decides _ _ _ c.eq.ensures).0 e)
