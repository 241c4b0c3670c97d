use Rattle.std.proofs.Common.{refl, arith}
use Rattle.c_file.specs.Calls.{case_calls}
use Rattle.c_file.proofs.CallLemmas.{more_added, all_added, cases_next}
use Rattle.c_file.proofs.calls.add_cases.Goals as goal

pub loop-case-preserved : goal.loop-case-preserved
loop-case-preserved c =
    more_added _ _ _ _ _ _
    (cases_next c.args.caller c.args.cases.now c.loop-case.case-index _ (omega arith))
    c.in_ok-add_call.ensures c.loop-case.invariant

pub returns : goal.returns
returns c =
    all_added (case_calls c.args.caller) c.args.cases.now c.loop-case.case-index _ _ (omega arith) refl
    c.loop-case.invariant
