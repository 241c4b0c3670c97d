use Rattle.std.proofs.Common.{◌≡◌, map, ap, ◌∙◌}
use Rattle.actions.specs.Names.{Names, names_of}
use Rattle.checked_chart.specs.Chart.{Chart}
use Rattle.checked_chart.specs.Kept.{chart_of}
use Rattle.code_language.specs.Code.{Code, code_of}
use Rattle.chart_code.specs.Keys.{layout}
use Rattle.chart_code.specs.Places.{numbers}
use Rattle.chart_code.specs.Bodies.{body, procedures_of, code_of_chart}
use Rattle.chart_compile.proofs.Codes.{same_names, same_procedures, same_code}
use Rattle.chart_compile.proofs.compiler.compile_raw.Goals as goal

pub returns : goal.returns
unfolding code_of_chart procedures_of
returns c =
    let chart = chart_of c.args.chart.now in
    let same = c.in_ok-numbering.ensures.chart in
    let root = c.root-root.ensures.root in
    let declared : names_of c.in_ok-names.names ≡ chart.names = c.in_ok-names.ensures ∙ c.names.ensures.names in
    let k : Code = code_of (record {
      states = c.in_ok-states.states;
      vars = c.in_ok-names.names.vars;
      events = c.in_ok-names.names.events;
      start = c.enter.result;
      react = c.process.result;
      procs = c.in_ok-procs.procs;
    }) in
    record {
      code =
          same_code k (code_of_chart chart) c.in_ok-states.ensures.tree
          (same_names k.names chart.names c.in_ok-states.ensures.names (ap (λ (n : Names). n.vars) declared)
          (ap (λ (n : Names). n.events) declared))
          (same_procedures k.procedures (procedures_of chart)
          (c.in_ok-procs.ensures ∙ ap (λ (x : Chart). map (body x) (layout x)) same)
          (c.enter.ensures ∙ ap (λ (x : Chart). (numbers x).enter c.root-root.result c.root-root.result) same
          ∙ ap (λ r. (numbers chart).enter r r) root)
          (c.process.ensures ∙ ap (λ (x : Chart). (numbers x).process c.root-root.result) same
          ∙ ap (λ r. (numbers chart).process r) root));
    }
