use Rattle.std.proofs.Common.{◌++◌, codes}
use Rattle.std.proofs.lemmas.Result.{on_err_weaker}
use Rattle.commands.specs.ErrorLines.{kind_text, place_text}
use Rattle.commands.proofs.FrontLemmas.{at_exit, front_after, front_first, written_after}
use Rattle.commands.proofs.error_line.write_refusal.Goals as goal

-- the place isn't written
pub returns-in_err-write_place-clause-failed : goal.returns-in_err-write_place-clause-failed
returns-in_err-write_place-clause-failed g c =
    let place = place_text c.args.refusal.at in
    let kind = kind_text c.args.refusal.kind in
    at_exit c.from_residual.result
    (front_first _ _ (place ++ kind) (codes "\n") (front_first _ _ place kind c.in_err-write_place.ensures.failed))

-- the kind isn't written
pub returns-in_err-write_kind-clause-failed : goal.returns-in_err-write_kind-clause-failed
returns-in_err-write_kind-clause-failed g c =
    let place = place_text c.args.refusal.at in
    let kind = kind_text c.args.refusal.kind in
    at_exit c.from_residual-in_err-write_kind.result
    (front_first _ _ (place ++ kind) (codes "\n")
    (front_after _ _ _ place kind c.in_ok-write_place.ensures.ok c.in_err-write_kind.ensures.failed))

-- the end of the line isn't written
pub returns-clause-failed : goal.returns-clause-failed
returns-clause-failed g c =
    let place = place_text c.args.refusal.at in
    let kind = kind_text c.args.refusal.kind in
    on_err_weaker c.write_all.result
    (front_after _ _ _ (place ++ kind) (codes "\n")
    (written_after _ _ _ place kind c.in_ok-write_place.ensures.ok c.in_ok-write_kind.ensures.ok))
    c.write_all.ensures.failed
