-- How `fmt` ends.
use Rattle.std.specs.Prelude.{ℕ, List}
use Rattle.chart_format.specs.Text.{IsFormatted}
use Rattle.chart_tree.specs.declared.limits.TheConstants.{CHART_TEXT_LIMIT}
use Rattle.commands.specs.declared.text.TextEnd.{TextEnd}
use Rattle.commands.specs.Call.{Call}
use Rattle.commands.specs.Texts.{TextEnds}
use Rattle.commands.specs.declared.refusal.Refusal.{Refusal}
use Rattle.flow_program.specs.Refusals.{RefusesChart}

-- how `fmt` ends, and when: it writes the canonical text of a chart text
abbrev pub FmtEnds : Call → List ℕ → TextEnd Refusal → Type 0
FmtEnds = TextEnds CHART_TEXT_LIMIT IsFormatted RefusesChart
