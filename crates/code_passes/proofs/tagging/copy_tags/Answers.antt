use Rattle.std.proofs.Common.{◌<◌, ap, ◌∙◌, length, map, Some, arith}
use Rattle.code_language.specs.Code.{code_of}
use Rattle.code_passes.proofs.PassedLemmas.{copy_there}
use Rattle.code_passes.proofs.TagLemmas.{there, copies_more, copies_done}
use Rattle.code_passes.proofs.tagging.copy_tags.Goals as goal

-- the procedure of the copy has a tag
pub bounds-tags-copy : goal.bounds-tags-copy
bounds-tags-copy c =
    let size = c.requires.size in
    omega (
      arith,
      size,
      copy_there c.args.plan.now (code_of c.args.code.now) c.requires.right c.deref-copy-items.result.now
          c.deref-copy-items.ensures.value c.loop-copy.copy-index c.copy-item.result
          c.loop-copy-test.true c.copy-item.is,
    )

-- one more
pub loop-copy-preserved : goal.loop-copy-preserved
loop-copy-preserved c =
    let tags = c.args.tags.now in
    let x = c.copy-item.result in
    let had = c.requires.size in
    let within : x.key.proc < length tags =
    omega (
      arith,
      had,
      copy_there c.args.plan.now (code_of c.args.code.now) c.requires.right c.deref-copy-items.result.now
          c.deref-copy-items.ensures.value c.loop-copy.copy-index x c.loop-copy-test.true c.copy-item.is,
    ) in
    ap (map Some) c.in_ok-push.ensures.items
    ∙ copies_more c.args.plan.now.sets.items c.deref.result.now tags c.args.plan.now.copies.items
    c.deref-copy-items.result.now c.loop-copy.copy-index x _ c.copy_tag.result c.loop-copy.made.items
    c.deref.ensures.value c.deref-copy-items.ensures.value c.loop-copy-test.true c.copy-item.is c.copy_tag.ensures
    (there tags x.key.proc _ within) c.loop-copy.invariant

-- all
pub returns : goal.returns
returns c =
    let past = c.loop-copy-test.false in
    copies_done c.args.plan.now.sets.items c.args.tags.now c.args.plan.now.copies.items c.loop-copy.copy-index
    c.loop-copy.made.items (omega (arith, past, ap length c.deref-copy-items.ensures.value)) c.loop-copy.invariant
