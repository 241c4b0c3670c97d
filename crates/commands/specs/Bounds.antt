-- How `bounds` ends.
use Rattle.std.specs.Prelude.{◌≡◌, ℕ, List, Option, Some, None, ◌++◌, codes, decimal}
use Rattle.chart_tree.specs.declared.limits.TheConstants.{CHART_TEXT_LIMIT}
use Rattle.checked_chart.specs.Chart.{Chart}
use Rattle.bound_prove.specs.declared.need.Need.{Need}
use Rattle.bound_prove.specs.Searches.{IsNeedOf}
use Rattle.accepted_charts.specs.Accepted.{IsAccepted}
use Rattle.commands.specs.declared.text.TextEnd.{TextEnd}
use Rattle.commands.specs.Call.{Call}
use Rattle.commands.specs.Texts.{TextEnds}
use Rattle.commands.specs.declared.refusal.Refusal.{Refusal}
use Rattle.commands.specs.Accepted.{RefusesAccepted}

-- the line that is written of a need: the bounds that no event overruns, or that there are none
abbrev pub need_line : Option Need → List ℕ
need_line None = codes "no bounds\n"
need_line (Some need) = codes "depth " ++ decimal need.depth ++ codes " steps " ++ decimal need.steps ++ codes "\n"

-- the line is that of the need of the chart
pub record IsNeedLine (c : Chart) (line : List ℕ) : Type 0 where
  pub need : Option Need
  pub is_need : IsNeedOf c need
  pub line_is : line ≡ need_line need

-- the text is that of an accepted chart, and this is the line of its need
pub record HasNeed (text line : List ℕ) : Type 0 where
  pub chart : Chart
  pub accepted : IsAccepted text chart
  pub bounds : IsNeedLine chart line

-- how `bounds` ends, and when: it writes the line of the need of an accepted chart
abbrev pub BoundsEnds : Call → List ℕ → TextEnd Refusal → Type 0
BoundsEnds = TextEnds CHART_TEXT_LIMIT HasNeed RefusesAccepted
