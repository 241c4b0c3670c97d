use Rattle.std.proofs.Common.{codes}
use Rattle.std.proofs.lemmas.Result.{on_err_weaker}
use Rattle.commands.proofs.FrontLemmas.{front_after, written_as}
use Rattle.flow_program.proofs.report.write_line.Goals as goal

-- the end of the line isn't written
pub returns-clause-failed : goal.returns-clause-failed
returns-clause-failed g c =
    on_err_weaker c.write_all-2.result
    (front_after _ _ _ c.args.text.now (codes "\n")
    (written_as _ _ c.as_bytes.result.now _ c.as_bytes.ensures.value c.in_ok-write_all.ensures.ok))
    c.write_all-2.ensures.failed
