use Rattle.std.proofs.Common.{refl}
use Rattle.chart_code.specs.Bodies.{code_of_chart}
use Rattle.code_copies.proofs.SameRunsLemmas.{same_shrunk}
use Rattle.c_functions.specs.Plans.{all_tests}
use Rattle.c_runs.proofs.Runs.{runs-as-rules, same-fits, all-serve}
use Rattle.c_runs.proofs.laws.files_run_as_charts.Goals as goal

pub returns : goal.returns
returns c chart b k valid shrunk =
    let same = same_shrunk (code_of_chart chart) k shrunk in
    runs-as-rules chart b k all_tests b b.steps valid (same-fits chart k same)
    (all-serve chart b k valid same) (record { tested = λ p j x e can. refl })
