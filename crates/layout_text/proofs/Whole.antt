-- The bytes of the whole text of a chart's code.
use Rattle.std.proofs.Common.{◌≡◌, ◌≤◌, length, map, ap, arith}
use Rattle.std.proofs.lemmas.List.{length-map}
use Rattle.active_config.specs.Tree.{state_count}
use Rattle.checked_chart.specs.Chart.{Chart}
use Rattle.checked_chart.specs.Valid.{IsValid}
use Rattle.code_language.specs.declared.code.RawState.{RawState}
use Rattle.code_language.specs.Code.{Code}
use Rattle.code_lines.specs.declared.format.Format.TheVariants.{Two}
use Rattle.code_text.specs.declared.limits.TheConstants.{TEXT_LIMIT}
use Rattle.code_text.specs.Spelling.{code_text}
use Rattle.code_text.specs.Written.{Written, code_written}
use Rattle.layout_text.specs.Sizes.{procs_limit}
use Rattle.layout_text.proofs.Texts.{text_size}
use Rattle.chart_code.specs.Bodies.{body, procedures_of, code_of_chart}
use Rattle.chart_code.specs.Keys.{layout}
use Rattle.layout_text.proofs.Procedures.{keys_are}
use Rattle.layout_text.proofs.AllProcedures.{procedures_size}
use Rattle.layout_text.proofs.Spellable.{code_spellable}

module _ (c : Chart) (valid : IsValid c) (w : Written) (same : code_written w ≡ code_of_chart c) where
  -- how many states, data and events there are
  states_few : length w.states ≤ 1024
  unfolding code_of_chart state_count
  states_few =
      omega (
        arith,
        ap (λ (k : Code). length k.tree.parents) same,
        length-map w.states (λ (s : RawState). s.parent),
        valid.limits.states,
      )

  vars_few : length w.vars ≤ 1024
  unfolding code_of_chart
  vars_few = omega (arith, ap (λ (k : Code). length k.names.vars) same, valid.limits.vars)

  events_few : length w.events ≤ 1024
  unfolding code_of_chart
  events_few = omega (arith, ap (λ (k : Code). length k.names.events) same, valid.limits.events)

  -- the procedures are those of the layout
  procs_are : w.procedures.procs ≡ map (body c) (layout c)
  unfolding code_of_chart procedures_of
  procs_are = ap (λ (k : Code). k.procedures.procs) same

  -- the text of a chart's code is short
  pub text_short : length (code_text Two w) ≤ TEXT_LIMIT
  text_short =
      omega (
        arith,
        text_size Two w (code_spellable c valid w same),
        ap procs_limit procs_are,
        keys_are c (layout c),
        procedures_size c valid,
        states_few,
        vars_few,
        events_few,
      )
