use Rattle.std.proofs.Common.{◌≡◌, sym, ap, subst, ◌∙◌}
use Rattle.checked_chart.specs.Kept.{chart_of}
use Rattle.code_language.specs.Code.{code_of}
use Rattle.code_language.specs.WellFormed.{IsCode}
use Rattle.chart_code.specs.Bodies.{code_of_chart}
use Rattle.chart_compile.proofs.Compiled.{is_small, runs_as}
use Rattle.chart_compile.proofs.compiler.compile.Goals as goal

-- the code of a valid chart is well formed
pub of_well_formed-requires : goal.of_well_formed-requires
of_well_formed-requires c =
    let well = c.the_code_of_a_chart_is_well_formed.ensures (chart_of c.args.chart.now) c.shape.ensures.valid in
    subst IsCode (sym c.in_ok-raw.ensures.code) well

-- it is the chart's, so it runs as the chart
pub returns : goal.returns
returns c =
    let chart = chart_of c.args.chart.now in
    let valid = c.shape.ensures.valid in
    let raw = c.in_ok-raw.raw in
    let same : code_of c.in_ok-code.code ≡ code_of_chart chart =
    ap code_of c.in_ok-code.ensures ∙ c.in_ok-raw.ensures.code in
    record {
      code = same;
      runs = runs_as chart valid (code_of c.in_ok-code.code) same;
      small = is_small chart valid (code_of c.in_ok-code.code) same;
    }
