use Rattle.std.proofs.Common.{◌++◌, ap, codes, decimal}
use Rattle.std.proofs.lemmas.Result.{on_err_weaker}
use Rattle.commands.proofs.FrontLemmas.{front_first, front_after, front_as, written_after, written_as, at_exit}
use Rattle.commands.proofs.error_line.write_place.Goals as goal

-- what stands before the number of the line isn't written
pub returns-in_err-write_all-clause-failed : goal.returns-in_err-write_all-clause-failed
returns-in_err-write_all-clause-failed g c =
    let line = decimal c.args.at.line in
    let column = decimal c.args.at.column in
    at_exit c.from_residual.result
    (front_first _ _ (codes "chart " ++ line ++ codes ":") column
    (front_first _ _ (codes "chart " ++ line) (codes ":")
    (front_first _ _ (codes "chart ") line c.in_err-write_all.ensures.failed)))

-- the number of the line isn't written
pub returns-in_err-write_number-clause-failed : goal.returns-in_err-write_number-clause-failed
returns-in_err-write_number-clause-failed g c =
    let line = decimal c.args.at.line in
    let column = decimal c.args.at.column in
    at_exit c.from_residual-in_err-write_number.result
    (front_first _ _ (codes "chart " ++ line ++ codes ":") column
    (front_first _ _ (codes "chart " ++ line) (codes ":")
    (front_after _ _ _ (codes "chart ") line c.in_ok-write_all.ensures.ok
    (front_as _ _ _ _ (ap decimal c.from.ensures) c.in_err-write_number.ensures.failed))))

-- what stands after it isn't written
pub returns-in_err-write_all-2-clause-failed : goal.returns-in_err-write_all-2-clause-failed
returns-in_err-write_all-2-clause-failed g c =
    let line = decimal c.args.at.line in
    let column = decimal c.args.at.column in
    at_exit c.from_residual-in_err-write_all-2.result
    (front_first _ _ (codes "chart " ++ line ++ codes ":") column
    (front_after _ _ _ (codes "chart " ++ line) (codes ":")
    (written_after _ _ _ (codes "chart ") line c.in_ok-write_all.ensures.ok
    (written_as _ _ _ _ (ap decimal c.from.ensures) c.in_ok-write_number.ensures.ok))
    c.in_err-write_all-2.ensures.failed))

-- the number of the column isn't written
pub returns-clause-failed : goal.returns-clause-failed
returns-clause-failed g c =
    let line = decimal c.args.at.line in
    let column = decimal c.args.at.column in
    on_err_weaker c.write_number-2.result
    (λ front.
    front_after _ _ _ (codes "chart " ++ line ++ codes ":") column
    (written_after _ _ _ (codes "chart " ++ line) (codes ":")
    (written_after _ _ _ (codes "chart ") line c.in_ok-write_all.ensures.ok
    (written_as _ _ _ _ (ap decimal c.from.ensures) c.in_ok-write_number.ensures.ok))
    c.in_ok-write_all-2.ensures.ok)
    (front_as _ _ _ column (ap decimal c.from-2.ensures) front))
    c.write_number-2.ensures.failed
