use Rattle.std.proofs.Common.{◌++◌, ap, ◌∙◌, codes, decimal}
use Rattle.std.proofs.lemmas.Result.{on_err_weaker}
use Rattle.chart_tree.specs.Form.{form_number, form_name}
use Rattle.commands.proofs.FrontLemmas.{front_first, front_after, front_as, written_after, written_as, at_exit}
use Rattle.commands.proofs.error_line.write_kind.Goals as goal

-- what stands before the number isn't written
pub returns-in_err-write_all-clause-failed : goal.returns-in_err-write_all-clause-failed
returns-in_err-write_all-clause-failed g c =
    let number = decimal (form_number c.args.kind) in
    let name = form_name c.args.kind in
    at_exit c.from_residual.result
    (front_first _ _ (codes ": " ++ number ++ codes " ") name
    (front_first _ _ (codes ": " ++ number) (codes " ")
    (front_first _ _ (codes ": ") number c.in_err-write_all.ensures.failed)))

-- the number isn't written
pub returns-in_err-write_number-clause-failed : goal.returns-in_err-write_number-clause-failed
returns-in_err-write_number-clause-failed g c =
    let number = decimal (form_number c.args.kind) in
    let name = form_name c.args.kind in
    let same = ap decimal (c.from.ensures ∙ c.number.ensures) in
    at_exit c.from_residual-in_err-write_number.result
    (front_first _ _ (codes ": " ++ number ++ codes " ") name
    (front_first _ _ (codes ": " ++ number) (codes " ")
    (front_after _ _ _ (codes ": ") number c.in_ok-write_all.ensures.ok
    (front_as _ _ _ _ same c.in_err-write_number.ensures.failed))))

-- what stands after the number isn't written
pub returns-in_err-write_all-2-clause-failed : goal.returns-in_err-write_all-2-clause-failed
returns-in_err-write_all-2-clause-failed g c =
    let number = decimal (form_number c.args.kind) in
    let name = form_name c.args.kind in
    let same = ap decimal (c.from.ensures ∙ c.number.ensures) in
    at_exit c.from_residual-in_err-write_all-2.result
    (front_first _ _ (codes ": " ++ number ++ codes " ") name
    (front_after _ _ _ (codes ": " ++ number) (codes " ")
    (written_after _ _ _ (codes ": ") number c.in_ok-write_all.ensures.ok
    (written_as _ _ _ _ same c.in_ok-write_number.ensures.ok))
    c.in_err-write_all-2.ensures.failed))

-- the name isn't written
pub returns-clause-failed : goal.returns-clause-failed
returns-clause-failed g c =
    let number = decimal (form_number c.args.kind) in
    let name = form_name c.args.kind in
    let same = ap decimal (c.from.ensures ∙ c.number.ensures) in
    on_err_weaker c.write_all-3.result
    (λ front.
    front_after _ _ _ (codes ": " ++ number ++ codes " ") name
    (written_after _ _ _ (codes ": " ++ number) (codes " ")
    (written_after _ _ _ (codes ": ") number c.in_ok-write_all.ensures.ok
    (written_as _ _ _ _ same c.in_ok-write_number.ensures.ok))
    c.in_ok-write_all-2.ensures.ok)
    (front_as _ _ c.as_bytes.result.now name (c.as_bytes.ensures.value ∙ c.name.ensures) front))
    c.write_all-3.ensures.failed
