use Rattle.std.proofs.Common.{◌∙◌, ap, ◌++◌, [], ◌∷◌, sym}
use Rattle.code_merging.proofs.OwnNumbers.{numbers_push}
use Rattle.code_merging.proofs.finding.own_numbers.Goals as goal

-- one more
pub loop-p-preserved : goal.loop-p-preserved
loop-p-preserved c =
    c.in_ok-push.ensures.items ∙ ap (λ l. l ++ c.loop-p.p ∷ []) c.loop-p.invariant ∙ sym (numbers_push c.loop-p.p)
