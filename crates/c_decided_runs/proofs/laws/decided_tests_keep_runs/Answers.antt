use Rattle.c_decided.proofs.Deciding.{calls-kept}
use Rattle.c_decided_runs.proofs.Runs.{runs-on}
use Rattle.c_decided_runs.proofs.Refusing.{refuses-at-once, refuses-so, code-refuses}
use Rattle.c_decided_runs.proofs.laws.decided_tests_keep_runs.Goals as goal

pub returns-clause-runs : goal.returns-clause-runs
returns-clause-runs c P K file made is between int s given events moments shape are all =
    runs-on P K file made (calls-kept P file made is) between int s given events moments shape are all

pub returns-clause-refuses_at_once : goal.returns-clause-refuses_at_once
returns-clause-refuses_at_once c P K file made is between int =
    refuses-at-once P file made is int K between.start_stays between.react_stays

pub returns-clause-refuses : goal.returns-clause-refuses
returns-clause-refuses c = refuses-so

pub returns-clause-code : goal.returns-clause-code
returns-clause-code c = code-refuses
