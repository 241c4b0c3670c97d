use Rattle.std.proofs.Common.{arith, length, refl, subst, ◌≤◌}
use Rattle.std.proofs.lemmas.Option.{slice_get_within}
use Rattle.code_language.specs.Code.{code_of}
use Rattle.code_copies.specs.Views.{copy_of, plan_of}
use Rattle.code_copies.specs.Made.{CopyIsRight}
use Rattle.code_copies.proofs.CheckLemmas.{each_more}
use Rattle.code_copies.proofs.checking.are_copies_right.Goals as goal

-- the copy at this place is right
pub loop-copy-preserved : goal.loop-copy-preserved
loop-copy-preserved c =
    each_more (λ d. CopyIsRight (plan_of c.args.plan.now) (code_of c.args.code.now) (copy_of c.args.plan.now.sets.items d))
    c.deref-copy-items.result.now c.args.plan.now.copies.items c.loop-copy.copy-index c.copy-item.result
    c.deref-copy-items.ensures.value c.loop-copy-test.true c.copy-item.is c.loop-copy.invariant
    (c.if-not-is_copy_right.ensures refl)

-- all are
pub returns : goal.returns
returns c t i d e =
    let past = subst (λ xs. length xs ≤ c.loop-copy.copy-index) c.deref-copy-items.ensures.value c.loop-copy-test.false in
    let there = slice_get_within c.args.plan.now.copies.items i d e in
    c.loop-copy.invariant i (omega (arith, past, there)) d e
