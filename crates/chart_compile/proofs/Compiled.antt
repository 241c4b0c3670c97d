-- The code of a valid chart is small, and runs as the chart.
use Rattle.std.proofs.Common.{◌≡◌, sym, subst}
use Rattle.checked_chart.specs.Chart.{Chart}
use Rattle.checked_chart.specs.Valid.{IsValid}
use Rattle.code_language.specs.Code.{Code}
use Rattle.chart_code.specs.Bodies.{code_of_chart}
use Rattle.chart_code.proofs.Whole.{code_runs}
use Rattle.layout_bounds.proofs.FewProcedures.{procedures_few}
use Rattle.layout_bounds.proofs.CodeHeights.{greatest_low}
use Rattle.layout_bounds.proofs.CodeWorks.{greatest_work_within}
use Rattle.chart_compile.specs.Compiled.{IsSmall, RunsAs}

module _ (c : Chart) (valid : IsValid c) where
  -- it is small
  small : IsSmall c (code_of_chart c)
  small = record {
    procedures = λ pairs are. procedures_few c valid pairs are;
    height = greatest_low c valid;
    work = greatest_work_within c valid;
  }

  -- so is code that is the same
  pub is_small : (k : Code) → k ≡ code_of_chart c → IsSmall c k
  is_small k same = subst (IsSmall c) (sym same) small

  -- and it runs as the chart
  pub runs_as : (k : Code) → k ≡ code_of_chart c → RunsAs c k
  runs_as k same = subst (RunsAs c) (sym same) (λ b events moments. code_runs c valid b events moments)
