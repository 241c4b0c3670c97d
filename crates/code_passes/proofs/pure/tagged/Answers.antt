use Rattle.std.proofs.Common.{Option, IfSome, ◌∙◌, ap, length, slice_get, subst}
use Rattle.code_language.specs.Code.{code_of}
use Rattle.code_copies.specs.SameRuns.{HasSameRuns}
use Rattle.code_pure_copies.specs.PureCopies.{ArePureCopies}
use Rattle.code_pure_copies.specs.declared.making.Copies.{Copies}
use Rattle.code_passes.specs.Passed.{After}
use Rattle.code_passes.proofs.PassedLemmas.{copies_pass, origins_there}
use Rattle.code_passes.proofs.TagLemmas.{tags_size}
use Rattle.code_passes.proofs.pure.tagged.Goals as goal

-- the origin of a copy has a tag
pub tags_at-requires : goal.tags_at-requires
tags_at-requires c =
    let k = code_of c.args.before.now.code in
    let copies = c.in-Some.copies in
    let pure = subst
    (λ (o : Option Copies). IfSome o (λ made. ArePureCopies k (code_of made.code) made.origins.items))
    c.in-Some.is c.requires.copies in
    origins_there k (code_of copies.code) copies.origins.items c.deref-2.result.now _ pure c.deref-2.ensures.value
    (ap length c.deref.ensures.value ∙ c.requires.size)

-- there is a tag for each copy
pub returns-clause-size : goal.returns-clause-size
returns-clause-size c =
    let k = code_of c.args.before.now.code in
    let copies = c.in-Some.copies in
    let pure = subst
    (λ (o : Option Copies). IfSome o (λ made. ArePureCopies k (code_of made.code) made.origins.items))
    c.in-Some.is c.requires.copies in
    tags_size (slice_get c.deref.result.now) c.deref-2.result.now c.in_ok-tags.tags.items c.in_ok-tags.ensures
    ∙ ap length c.deref-2.ensures.value ∙ pure.size

-- one more pass
pub returns-clause-passed : goal.returns-clause-passed
returns-clause-passed c k h =
    let now = code_of c.args.before.now.code in
    let copies = c.in-Some.copies in
    let pure = subst
    (λ (o : Option Copies). IfSome o (λ made. ArePureCopies now (code_of made.code) made.origins.items))
    c.in-Some.is c.requires.copies in
    let same = subst (λ (o : Option Copies). IfSome o (λ made. HasSameRuns now (code_of made.code))) c.in-Some.is
    c.requires.same in
    After now (code_of copies.code) c.args.before.now.tags.items c.in_ok-tags.tags.items h
    (copies_pass now (code_of copies.code) c.args.before.now.tags.items c.deref.result.now c.in_ok-tags.tags.items
    copies.origins.items c.deref-2.result.now same pure c.deref-2.ensures.value c.deref.ensures.value
    c.in_ok-tags.ensures)
