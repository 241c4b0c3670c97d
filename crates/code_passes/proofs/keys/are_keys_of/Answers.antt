use Rattle.std.proofs.Common.{subst}
use Rattle.code_language.specs.Code.{code_of}
use Rattle.code_language.specs.declared.code.RawCode.{RawCode}
use Rattle.code_copies.specs.Views.{key_of}
use Rattle.code_passes.specs.Tags.{IsKeyOf}
use Rattle.code_passes.proofs.TagLemmas.{keys_more, keys_done}
use Rattle.code_passes.proofs.keys.are_keys_of.Goals as goal

-- one more
pub loop-copy-preserved : goal.loop-copy-preserved
loop-copy-preserved c =
    let sets = c.args.plan.now.sets.items in
    let x = c.copy-item.result in
    keys_more (code_of c.args.code.now) sets c.args.plan.now.copies.items c.deref-copy-items.result.now
    c.loop-copy.copy-index x c.deref-copy-items.ensures.value c.loop-copy-test.true c.copy-item.is
    (subst (λ (raw : RawCode). IsKeyOf (code_of raw) (key_of sets x.key)) c.raw-raw.ensures.raw
    (c.is_key_of.ensures c.if-not-is_key_of.false sets))
    c.loop-copy.invariant

-- all
pub returns : goal.returns
returns c holds =
    keys_done (code_of c.args.code.now) c.args.plan.now.sets.items c.args.plan.now.copies.items
    c.deref-copy-items.result.now c.loop-copy.copy-index c.deref-copy-items.ensures.value c.loop-copy-test.false
    c.loop-copy.invariant
