use Rattle.c_functions.proofs.StartsRuns.{runs-on, unset-shape}
use Rattle.c_functions.proofs.FilesShape.{shape-kept}
use Rattle.c_functions.proofs.function_laws.files_run_as_code.Goals as goal

pub returns-clause-runs : goal.returns-clause-runs
returns-clause-runs c k T b room bodies int s given events moments is named small written most right shape values all
    code ends =
    runs-on k T b room bodies int is most named small right written s given events moments shape values all code ends

pub returns-clause-unset : goal.returns-clause-unset
returns-clause-unset c = unset-shape

pub returns-clause-kept : goal.returns-clause-kept
returns-clause-kept c = shape-kept
