use Rattle.std.proofs.Common.{◌++◌, ap, ◌∙◌, codes, decimal}
use Rattle.std.proofs.lemmas.Result.{on_err_weaker}
use Rattle.event_file.specs.Faults.{line_fault_number, line_fault_name}
use Rattle.commands.proofs.FrontLemmas.{front_first, front_after, front_as, written_after, written_as, at_exit}
use Rattle.flow_program.proofs.report.write_event_fault.Goals as goal

-- what stands after the number isn't written
pub returns-in_err-write_all-clause-failed : goal.returns-in_err-write_all-clause-failed
returns-in_err-write_all-clause-failed g c =
    let number = decimal (line_fault_number c.args.fault) in
    let name = line_fault_name c.args.fault in
    let same = ap decimal (c.from.ensures ∙ c.number.ensures) in
    at_exit c.from_residual-in_err-write_all.result
    (front_first _ _ (number ++ codes " ") name
    (front_after _ _ _ number (codes " ") (written_as _ _ _ _ same c.in_ok-write_number.ensures.ok)
    c.in_err-write_all.ensures.failed))

-- the name isn't written
pub returns-clause-failed : goal.returns-clause-failed
returns-clause-failed g c =
    let number = decimal (line_fault_number c.args.fault) in
    let name = line_fault_name c.args.fault in
    let same = ap decimal (c.from.ensures ∙ c.number.ensures) in
    on_err_weaker c.write_all-2.result
    (λ front.
    front_after _ _ _ (number ++ codes " ") name
    (written_after _ _ _ number (codes " ") (written_as _ _ _ _ same c.in_ok-write_number.ensures.ok)
    c.in_ok-write_all.ensures.ok)
    (front_as _ _ c.as_bytes.result.now name (c.as_bytes.ensures.value ∙ c.name.ensures) front))
    c.write_all-2.ensures.failed
