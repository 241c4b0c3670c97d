use Rattle.std.proofs.Common.{◌∷◌, [], ◌++◌, ap, ◌∙◌, arith}
use Rattle.std.proofs.lemmas.List.{take_all}
use Rattle.code_passes.specs.Tags.{shared_from}
use Rattle.code_passes.proofs.TagLemmas.{shared_more}
use Rattle.code_passes.proofs.tagging.shared_by.Goals as goal

-- one more
pub loop-proc-preserved : goal.loop-proc-preserved
loop-proc-preserved c numbers told =
    let i = c.loop-proc.proc in
    let same = c.requires in
    let test = c.loop-proc-test.true in
    c.in_ok-push.ensures.items ∙ ap (λ tag. c.loop-proc.shared.items ++ tag ∷ []) c.with_shared.ensures
    ∙ shared_more numbers c.args.tags.now i _ _ c.loop-proc.shared.items c.loop-proc-test.true
    (told i (omega (arith, same, test))) (c.loop-proc.invariant numbers told)

-- all
pub returns : goal.returns
returns c numbers told =
    c.loop-proc.invariant numbers told
    ∙ ap (shared_from numbers 0) (take_all c.loop-proc.proc c.args.tags.now c.loop-proc-test.false)
