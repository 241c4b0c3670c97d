use Rattle.std.proofs.Common.{[], ◌∷◌, ◌++◌, ap, ◌∙◌}
use Rattle.code_passes.proofs.TagLemmas.{plays_more}
use Rattle.code_passes.proofs.tagging.after_plays.Goals as goal

-- one more
pub loop-tag-preserved : goal.loop-tag-preserved
loop-tag-preserved c =
    c.in_ok-push.ensures.items ∙ ap (λ tag. c.loop-tag.all.items ++ tag ∷ []) c.with_plays.ensures
    ∙ plays_more c.args.front.now c.loop-tag.tag-index _ c.loop-tag.all.items c.loop-tag-test.true c.loop-tag.invariant
