-- How `check` ends.
use Rattle.std.specs.Prelude.{◌≡◌, ℕ, List, ◌++◌, codes, decimal}
use Rattle.chart_tree.specs.declared.limits.TheConstants.{CHART_TEXT_LIMIT}
use Rattle.active_config.specs.Tree.{state_count}
use Rattle.checked_chart.specs.Chart.{Chart, junction_count}
use Rattle.checked_chart.specs.Counts.{transition_count}
use Rattle.checked_chart.specs.Reached.{ChartPairs}
use Rattle.accepted_charts.specs.Accepted.{IsAccepted}
use Rattle.commands.specs.declared.text.TextEnd.{TextEnd}
use Rattle.commands.specs.Call.{Call}
use Rattle.commands.specs.Texts.{TextEnds}
use Rattle.commands.specs.declared.refusal.Refusal.{Refusal}
use Rattle.commands.specs.Accepted.{RefusesAccepted}

-- a line with four counts
abbrev pub counts_text : ℕ → ℕ → ℕ → ℕ → List ℕ
counts_text states junctions transitions pairs =
    codes "ok " ++ decimal states ++ codes " states " ++ decimal junctions ++ codes " junctions " ++ decimal transitions
    ++ codes " transitions " ++ decimal pairs ++ codes " pairs\n"

-- the line that is written of a chart: its states with the root, its junctions, its transitions and its pairs
abbrev pub counts_line : Chart → ℕ → List ℕ
counts_line c pairs = counts_text (state_count c.tree) (junction_count c) (transition_count c) pairs

-- the line is that of the chart with the number of its pairs
pub record IsCountsLine (c : Chart) (line : List ℕ) : Type 0 where
  pub pairs : ℕ
  pub counted : ChartPairs c pairs
  pub line_is : line ≡ counts_line c pairs

-- the text is that of an accepted chart, and this is the line of its counts
pub record HasCounts (text line : List ℕ) : Type 0 where
  pub chart : Chart
  pub accepted : IsAccepted text chart
  pub counts : IsCountsLine chart line

-- how `check` ends, and when: it writes the line of the counts of an accepted chart
abbrev pub CheckEnds : Call → List ℕ → TextEnd Refusal → Type 0
CheckEnds = TextEnds CHART_TEXT_LIMIT HasCounts RefusesAccepted
