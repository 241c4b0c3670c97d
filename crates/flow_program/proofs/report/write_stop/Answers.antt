use Rattle.std.proofs.Common.{◌++◌, ap, codes, decimal}
use Rattle.std.proofs.lemmas.Result.{on_err_weaker}
use Rattle.commands.proofs.FrontLemmas.{front_first, front_after, front_as, written_after, written_as, at_exit}
use Rattle.flow_program.proofs.report.write_stop.Goals as goal

-- the head isn't written
pub returns-in_err-write_head-clause-failed : goal.returns-in_err-write_head-clause-failed
returns-in_err-write_head-clause-failed g c =
    let head = codes "run " ++ decimal c.args.step ++ codes ": " in
    let word = c.args.word.now in
    let route = decimal c.args.route in
    at_exit c.from_residual.result
    (front_first _ _ (head ++ word ++ route) (codes "\n")
    (front_first _ _ (head ++ word) route (front_first _ _ head word c.in_err-write_head.ensures.failed)))

-- the word isn't written
pub returns-in_err-write_all-clause-failed : goal.returns-in_err-write_all-clause-failed
returns-in_err-write_all-clause-failed g c =
    let head = codes "run " ++ decimal c.args.step ++ codes ": " in
    let word = c.args.word.now in
    let route = decimal c.args.route in
    at_exit c.from_residual-in_err-write_all.result
    (front_first _ _ (head ++ word ++ route) (codes "\n")
    (front_first _ _ (head ++ word) route
    (front_after _ _ _ head word c.in_ok-write_head.ensures.ok
    (front_as _ _ c.as_bytes.result.now word c.as_bytes.ensures.value c.in_err-write_all.ensures.failed))))

-- the route isn't written
pub returns-in_err-write_number-clause-failed : goal.returns-in_err-write_number-clause-failed
returns-in_err-write_number-clause-failed g c =
    let head = codes "run " ++ decimal c.args.step ++ codes ": " in
    let word = c.args.word.now in
    let route = decimal c.args.route in
    at_exit c.from_residual-in_err-write_number.result
    (front_first _ _ (head ++ word ++ route) (codes "\n")
    (front_after _ _ _ (head ++ word) route
    (written_after _ _ _ head word c.in_ok-write_head.ensures.ok
    (written_as _ _ c.as_bytes.result.now word c.as_bytes.ensures.value c.in_ok-write_all.ensures.ok))
    (front_as _ _ _ route (ap decimal c.from.ensures) c.in_err-write_number.ensures.failed)))

-- the end of the line isn't written
pub returns-clause-failed : goal.returns-clause-failed
returns-clause-failed g c =
    let head = codes "run " ++ decimal c.args.step ++ codes ": " in
    let word = c.args.word.now in
    let route = decimal c.args.route in
    on_err_weaker c.write_all-2.result
    (front_after _ _ _ (head ++ word ++ route) (codes "\n")
    (written_after _ _ _ (head ++ word) route
    (written_after _ _ _ head word c.in_ok-write_head.ensures.ok
    (written_as _ _ c.as_bytes.result.now word c.as_bytes.ensures.value c.in_ok-write_all.ensures.ok))
    (written_as _ _ _ route (ap decimal c.from.ensures) c.in_ok-write_number.ensures.ok)))
    c.write_all-2.ensures.failed
