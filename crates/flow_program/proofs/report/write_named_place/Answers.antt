use Rattle.std.proofs.Common.{◌++◌, codes}
use Rattle.std.proofs.lemmas.Result.{on_err_weaker}
use Rattle.flow_program.specs.Ending.{spot_text}
use Rattle.commands.proofs.FrontLemmas.{front_first, front_after, front_as, written_after, written_as, at_exit}
use Rattle.flow_program.proofs.report.write_named_place.Goals as goal

-- what stands before the name isn't written
pub returns-in_err-write_all-clause-failed : goal.returns-in_err-write_all-clause-failed
returns-in_err-write_all-clause-failed g c =
    let name = c.args.name.now in
    at_exit c.from_residual.result
    (front_first _ _ (codes "chart " ++ name ++ codes " ") (spot_text c.args.at)
    (front_first _ _ (codes "chart " ++ name) (codes " ")
    (front_first _ _ (codes "chart ") name c.in_err-write_all.ensures.failed)))

-- the name isn't written
pub returns-in_err-write_all-2-clause-failed : goal.returns-in_err-write_all-2-clause-failed
returns-in_err-write_all-2-clause-failed g c =
    let name = c.args.name.now in
    at_exit c.from_residual-in_err-write_all-2.result
    (front_first _ _ (codes "chart " ++ name ++ codes " ") (spot_text c.args.at)
    (front_first _ _ (codes "chart " ++ name) (codes " ")
    (front_after _ _ _ (codes "chart ") name c.in_ok-write_all.ensures.ok
    (front_as _ _ c.as_bytes.result.now name c.as_bytes.ensures.value c.in_err-write_all-2.ensures.failed))))

-- what stands after it isn't written
pub returns-in_err-write_all-3-clause-failed : goal.returns-in_err-write_all-3-clause-failed
returns-in_err-write_all-3-clause-failed g c =
    let name = c.args.name.now in
    at_exit c.from_residual-in_err-write_all-3.result
    (front_first _ _ (codes "chart " ++ name ++ codes " ") (spot_text c.args.at)
    (front_after _ _ _ (codes "chart " ++ name) (codes " ")
    (written_after _ _ _ (codes "chart ") name c.in_ok-write_all.ensures.ok
    (written_as _ _ c.as_bytes.result.now name c.as_bytes.ensures.value c.in_ok-write_all-2.ensures.ok))
    c.in_err-write_all-3.ensures.failed))

-- the place isn't written
pub returns-clause-failed : goal.returns-clause-failed
returns-clause-failed g c =
    let name = c.args.name.now in
    on_err_weaker c.write_spot.result
    (front_after _ _ _ (codes "chart " ++ name ++ codes " ") (spot_text c.args.at)
    (written_after _ _ _ (codes "chart " ++ name) (codes " ")
    (written_after _ _ _ (codes "chart ") name c.in_ok-write_all.ensures.ok
    (written_as _ _ c.as_bytes.result.now name c.as_bytes.ensures.value c.in_ok-write_all-2.ensures.ok))
    c.in_ok-write_all-3.ensures.ok))
    c.write_spot.ensures.failed
