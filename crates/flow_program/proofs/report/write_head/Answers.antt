use Rattle.std.proofs.Common.{◌++◌, codes, decimal}
use Rattle.std.proofs.lemmas.Result.{on_err_weaker}
use Rattle.commands.proofs.FrontLemmas.{front_first, front_after, written_after, written_as, at_exit}
use Rattle.flow_program.proofs.report.write_head.Goals as goal

-- the number isn't written
pub returns-in_err-write_number-clause-failed : goal.returns-in_err-write_number-clause-failed
returns-in_err-write_number-clause-failed g c =
    at_exit c.from_residual-in_err-write_number.result
    (front_first _ _ (c.args.word.now ++ decimal c.args.number) (codes ": ")
    (front_after _ _ _ c.args.word.now (decimal c.args.number)
    (written_as _ _ c.as_bytes.result.now _ c.as_bytes.ensures.value c.in_ok-write_all.ensures.ok)
    c.in_err-write_number.ensures.failed))

-- what stands after the number isn't written
pub returns-clause-failed : goal.returns-clause-failed
returns-clause-failed g c =
    on_err_weaker c.write_all-2.result
    (front_after _ _ _ (c.args.word.now ++ decimal c.args.number) (codes ": ")
    (written_after _ _ _ c.args.word.now (decimal c.args.number)
    (written_as _ _ c.as_bytes.result.now _ c.as_bytes.ensures.value c.in_ok-write_all.ensures.ok)
    c.in_ok-write_number.ensures.ok))
    c.write_all-2.ensures.failed
