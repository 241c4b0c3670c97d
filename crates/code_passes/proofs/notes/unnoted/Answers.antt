use Rattle.std.proofs.Common.{Option, IfSome, ap, ◌∙◌, sym, subst, length}
use Rattle.code_language.specs.Code.{code_of}
use Rattle.code_notes.specs.Whole.{IsNoteless}
use Rattle.code_notes.specs.declared.noteless.Noteless.{Noteless}
use Rattle.code_passes.specs.Passed.{IsPassed, After}
use Rattle.code_passes.proofs.PassedLemmas.{leaves_pass, pass_size, played_there}
use Rattle.code_passes.proofs.notes.unnoted.Goals as goal

-- the procedure in which a new one stands has a tag
pub tags_at-requires : goal.tags_at-requires
tags_at-requires c =
    let k = code_of c.args.code.now in
    let noteless = c.in-Some.noteless in
    let leaves = subst
    (λ (o : Option Noteless). IfSome o (λ made. IsNoteless k (code_of made.code) made.played.items))
    c.in-Some.is c.in_ok-noteless.ensures in
    played_there k (code_of noteless.code) noteless.played.items c.deref.result.now _ leaves c.deref.ensures.value
    c.requires

-- there is a tag for each procedure
pub smaller-requires : goal.smaller-requires
smaller-requires c =
    let k = code_of c.args.code.now in
    let noteless = c.in-Some.noteless in
    let made = code_of noteless.code in
    let tags = c.in_ok-tags.tags.items in
    let leaves = subst
    (λ (o : Option Noteless). IfSome o (λ made. IsNoteless k (code_of made.code) made.played.items))
    c.in-Some.is c.in_ok-noteless.ensures in
    let pass = leaves_pass k made c.args.tags.now c.deref-2.result.now c.in_ok-front.front.items tags
    noteless.played.items c.deref.result.now leaves c.deref.ensures.value c.in_ok-front.ensures c.deref-2.ensures.value
    c.in_ok-tags.ensures in
    ap length c.deref-3.ensures.value ∙ pass_size k c.args.tags.now made tags pass c.requires

-- one more pass
pub returns : goal.returns
returns c k h =
    let now = code_of c.args.code.now in
    let noteless = c.in-Some.noteless in
    let made = code_of noteless.code in
    let tags = c.in_ok-tags.tags.items in
    let leaves = subst
    (λ (o : Option Noteless). IfSome o (λ made. IsNoteless now (code_of made.code) made.played.items))
    c.in-Some.is c.in_ok-noteless.ensures in
    let pass = leaves_pass now made c.args.tags.now c.deref-2.result.now c.in_ok-front.front.items tags
    noteless.played.items c.deref.result.now leaves c.deref.ensures.value c.in_ok-front.ensures c.deref-2.ensures.value
    c.in_ok-tags.ensures in
    c.in_ok-made.ensures k
    (subst (IsPassed k made) (sym c.deref-3.ensures.value) (After now made c.args.tags.now tags h pass))
