use Rattle.std.proofs.Common.{◌≡◌, Option, IfSome, ap, ◌∙◌, sym, subst, length}
use Rattle.code_language.specs.Code.{code_of}
use Rattle.code_passes.specs.Passed.{IsPassed}
use Rattle.code_passes.specs.declared.made.Faster.{Faster}
use Rattle.code_passes.proofs.notes.without_any.Goals as goal

-- there is a tag for each copy
pub unnoted-requires : goal.unnoted-requires
unnoted-requires c =
    let size = subst
    (λ (o : Option Faster). IfSome o (λ made. length made.tags.items ≡ length (code_of made.code).procedures.procs))
    c.in-Some.is c.in_ok-copies.ensures.size in
    ap length c.deref.ensures.value ∙ size

-- of the copies
pub returns-in-Some : goal.returns-in-Some
returns-in-Some c k h =
    let copies = c.in-Some.copies in
    let passed = subst (λ (o : Option Faster). IfSome o (λ made. IsPassed k (code_of made.code) made.tags.items))
    c.in-Some.is (c.in_ok-copies.ensures.passed k h) in
    c.unnoted.ensures k (subst (IsPassed k (code_of copies.code)) (sym c.deref.ensures.value) passed)

-- there is a tag for each procedure
pub unnoted-requires-in-None : goal.unnoted-requires-in-None
unnoted-requires-in-None c = ap length c.deref-in-None.ensures.value ∙ c.requires

-- of the code as it was
pub returns-in-None : goal.returns-in-None
returns-in-None c k h =
    c.unnoted-in-None.ensures k
    (subst (IsPassed k (code_of c.args.before.now.code)) (sym c.deref-in-None.ensures.value) h)
