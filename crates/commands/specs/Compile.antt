-- How `compile` ends.
use Rattle.std.specs.Prelude.{◌≡◌, ◌↔◌, ◌≤◌, ℕ, List, length}
use Rattle.flow_base.specs.declared.bounds.Bounds.{Bounds}
use Rattle.chart_tree.specs.declared.limits.TheConstants.{CHART_TEXT_LIMIT}
use Rattle.actions.specs.Runs.{EventWithInputs, Moment}
use Rattle.checked_chart.specs.Chart.{Chart}
use Rattle.sos_rules.specs.Reactions.{RulesRun}
use Rattle.accepted_charts.specs.Accepted.{IsAccepted}
use Rattle.code_language.specs.declared.code.RawCode.{RawCode}
use Rattle.code_language.specs.Code.{code_of}
use Rattle.code_language.specs.Reactions.{CodeRun}
use Rattle.code_language.specs.WellFormed.{IsCode}
use Rattle.code_lines.specs.declared.format.Format.TheVariants.{Two}
use Rattle.code_text.specs.declared.limits.TheConstants.{TEXT_LIMIT}
use Rattle.code_text.specs.Spelling.{code_text, IsSpellable}
use Rattle.code_text.specs.Written.{written_of}
use Rattle.chart_code.specs.Bodies.{code_of_chart}
use Rattle.commands.specs.declared.text.TextEnd.{TextEnd}
use Rattle.commands.specs.Call.{Call}
use Rattle.commands.specs.Texts.{TextEnds}
use Rattle.commands.specs.declared.refusal.Refusal.{Refusal}
use Rattle.commands.specs.Accepted.{RefusesAccepted}

-- The text is that of the chart's code, in format 2. The code is well formed, and its text is short enough to be read
-- again. For all bounds and events with inputs it has the runs of the chart by the rules, and no others.
pub record IsCompiled (c : Chart) (text : List ℕ) : Type 0 where
  pub raw : RawCode
  pub text_is : text ≡ code_text Two (written_of raw)
  pub spellable : IsSpellable Two (written_of raw)
  pub code_is : code_of raw ≡ code_of_chart c
  pub well_formed : IsCode (code_of raw)
  pub short : length text ≤ TEXT_LIMIT
  pub runs : (b : Bounds) (events : List EventWithInputs) (moments : List Moment)
      → RulesRun c b events moments ↔ CodeRun (code_of raw) b events moments

-- the text is that of an accepted chart, which is compiled to this text of code
pub record Compiles (text compiled : List ℕ) : Type 0 where
  pub chart : Chart
  pub accepted : IsAccepted text chart
  pub is_compiled : IsCompiled chart compiled

-- how `compile` ends, and when: it writes the text of the code of an accepted chart
abbrev pub CompileEnds : Call → List ℕ → TextEnd Refusal → Type 0
CompileEnds = TextEnds CHART_TEXT_LIMIT Compiles RefusesAccepted
