use Rattle.std.proofs.Common.{◌≡◌, ◌∙◌, ap, subst, IfOk}
use Rattle.code_language.specs.Code.{instr_of}
use Rattle.code_language.specs.Instrs.{Instr, Unless}
use Rattle.code_language.specs.declared.instr.Instr.{Instr as Written}
use Rattle.code_shrink.specs.Numbers.{number_by}
use Rattle.code_shrink.proofs.MadeLemmas.{on_as, return_as, test_as}
use Rattle.code_shrink.proofs.smaller.recounted.Goals as goal

-- a test
pub returns-in-Tests : goal.returns-in-Tests
returns-in-Tests c slides kept way counts =
    let test =
    test_as (number_by c.args.numbers.now) slides kept (instr_of c.args.instr.now) c.in-Tests.over
    (way ∙ c.in-Tests.is) in
    subst (λ (x : Instr). IfOk c.tested.result (λ (made : Written). instr_of made ≡ x))
    (ap (λ n. Unless n test.1) (c.kept_within-in-Tests.ensures kept counts) ∙ test.3)
    (c.tested.ensures test.0 test.1 test.2)

-- what goes on
pub returns-in-On : goal.returns-in-On
returns-in-On c slides kept way counts =
    subst (λ (x : Instr). IfOk c.renamed_instr.result (λ (made : Written). instr_of made ≡ x))
    (on_as (number_by c.args.numbers.now) slides kept (instr_of c.args.instr.now) (way ∙ c.in-On.is)) c.renamed_instr.ensures

-- what returns
pub returns-in-Returns : goal.returns-in-Returns
returns-in-Returns c slides kept way counts =
    subst (λ (x : Instr). IfOk c.renamed_instr-in-Returns.result (λ (made : Written). instr_of made ≡ x))
    (return_as (number_by c.args.numbers.now) slides kept (instr_of c.args.instr.now) (way ∙ c.in-Returns.is))
    c.renamed_instr-in-Returns.ensures
