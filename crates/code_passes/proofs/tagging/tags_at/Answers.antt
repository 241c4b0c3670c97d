use Rattle.std.proofs.Common.{slice_get, get_or, ap, ◌∙◌, map, Some}
use Rattle.code_passes.proofs.TagLemmas.{there, tag_pushed, tags_done}
use Rattle.code_passes.proofs.tagging.tags_at.Goals as goal

-- one more
pub loop-origin-preserved : goal.loop-origin-preserved
loop-origin-preserved c =
    let tags = c.args.tags.now in
    let origins = c.args.origins.now in
    let i = c.loop-origin.origin-index in
    ap (map Some) c.in_ok-push.ensures.items
    ∙ tag_pushed (slice_get tags) origins i 0 c.loop-origin.found.items _ c.loop-origin-test.true
    (there tags (get_or origins i 0) _ (c.requires i c.loop-origin-test.true)) c.loop-origin.invariant

-- all
pub returns : goal.returns
returns c =
    tags_done (slice_get c.args.tags.now) c.args.origins.now c.loop-origin.origin-index c.loop-origin.found.items
    c.loop-origin-test.false c.loop-origin.invariant
