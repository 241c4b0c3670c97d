use Rattle.std.proofs.Common.{◌++◌, ap, codes, decimal}
use Rattle.std.proofs.lemmas.Result.{on_err_weaker}
use Rattle.commands.proofs.FrontLemmas.{front_first, front_after, front_as, written_after, written_as, at_exit}
use Rattle.flow_program.proofs.report.write_spot.Goals as goal

-- what stands after the line isn't written
pub returns-in_err-write_all-clause-failed : goal.returns-in_err-write_all-clause-failed
returns-in_err-write_all-clause-failed g c =
    let line = decimal c.args.at.line in
    let column = decimal c.args.at.column in
    at_exit c.from_residual-in_err-write_all.result
    (front_first _ _ (line ++ codes ":") column
    (front_after _ _ _ line (codes ":") (written_as _ _ _ _ (ap decimal c.from.ensures) c.in_ok-write_number.ensures.ok)
    c.in_err-write_all.ensures.failed))

-- the column isn't written
pub returns-clause-failed : goal.returns-clause-failed
returns-clause-failed g c =
    let line = decimal c.args.at.line in
    let column = decimal c.args.at.column in
    on_err_weaker c.write_number-2.result
    (λ front.
    front_after _ _ _ (line ++ codes ":") column
    (written_after _ _ _ line (codes ":")
    (written_as _ _ _ _ (ap decimal c.from.ensures) c.in_ok-write_number.ensures.ok) c.in_ok-write_all.ensures.ok)
    (front_as _ _ _ column (ap decimal c.from-2.ensures) front))
    c.write_number-2.ensures.failed
